-- How arrays are printed, as bytes.
use Rattle.std.specs.Prelude.{⊤, ℕ, zero, suc, ◌≤◌, ℤ, ◌&&◌, nat_lt, nat_eq, if◌then◌else◌, List, [], ◌∷◌, ◌++◌, length, take, drop, flat_map, codes, decimal}
use Rattle.std.specs.Fmt.{signed_decimal}
use Rattle.std.specs.List.{join_by}
use Rattle.ndarray.specs.Grid.{Grid}
use Rattle.ndarray.specs.Index.{size}
use Rattle.ndtables.specs.declared.printing.Form.{Form}
use Rattle.ndtables.specs.declared.printing.Form.TheVariants.{Plain, Table, Csv}

-- the first n pieces of a list, each of s elements
abbrev pub pieces : {A : Type 0} → ℕ → ℕ → List A → List (List A)
pieces zero s xs = []
pieces (suc n) s xs = take s xs ∷ pieces n s (drop s xs)

-- the text between two subarrays of these lengths: what is between two cells, a newline between two rows, and an empty line too between two larger ones
abbrev pub separator_text : List ℕ → List ℕ → List ℕ
separator_text between [] = between
separator_text between (n ∷ []) = 10 ∷ []
separator_text between (n ∷ m ∷ ns) = 10 ∷ 10 ∷ []

-- the cells of an array of these lengths, in row order, as text: with no axes its cell in decimal, else its subarrays along the first axis, with the separator between each two
abbrev pub cells_text : List ℕ → List ℕ → List ℤ → List ℕ
cells_text between [] xs = flat_map signed_decimal xs
cells_text between (n ∷ ns) xs = join_by (cells_text between ns) (separator_text between ns) (pieces n (size ns) xs)

-- an array as text: its cells and a newline. One of two or more axes that has no cells is no text
abbrev pub array_text_by : List ℕ → Grid ℤ → List ℕ
array_text_by between g = if nat_lt 1 (length g.lengths) && nat_eq (length g.cells) 0 then [] else (cells_text between g.lengths g.cells ++ 10 ∷ [])

-- an array as text, with a blank between two cells
abbrev pub array_text : Grid ℤ → List ℕ
array_text = array_text_by (codes " ")

-- the shape word of lengths: `.` for none, else their digits with an `x` between two lengths
abbrev pub shape_word : List ℕ → List ℕ
shape_word [] = codes "."
shape_word (n ∷ ns) = decimal n ++ flat_map (λ m. 120 ∷ decimal m) ns

-- an array as words that are read as a table: its shape word as a line, and its text
abbrev pub table_text : Grid ℤ → List ℕ
table_text g = shape_word g.lengths ++ (10 ∷ array_text g)

-- an array as records of fields: its text, with a comma between two cells
abbrev pub csv_text : Grid ℤ → List ℕ
csv_text = array_text_by (codes ",")

-- an array as text in a form
abbrev pub form_text : Form → Grid ℤ → List ℕ
form_text Plain = array_text
form_text Table = table_text
form_text Csv = csv_text

-- the array can be printed in the form: as records where it has at most two axes
abbrev pub HasForm : Form → Grid ℤ → Type 0
HasForm Plain g = ⊤
HasForm Table g = ⊤
HasForm Csv g = length g.lengths ≤ 2
