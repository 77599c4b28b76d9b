-- How lines, pictures and grids are printed, as bytes.
use Rattle.std.specs.Prelude.{ℕ, ℤ, Bool, if◌then◌else◌, List, [], ◌∷◌, ◌++◌, codes, decimal, flat_map, length, map, nat_eq, slice_index}
use Rattle.std.specs.Fmt.{signed_decimal}
use Rattle.std.specs.List.{zip}
use Rattle.ndarray.specs.Grid.{Grid}
use Rattle.ndarray.specs.Subviews.{lanes_of}

-- numbers, each behind a blank
abbrev pub others_text : List ℤ → List ℕ
others_text xs = flat_map (λ x. 32 ∷ signed_decimal x) xs

-- a line of numbers, with a blank between two of them
abbrev pub line_text : List ℤ → List ℕ
line_text [] = 10 ∷ []
line_text (x ∷ xs) = signed_decimal x ++ (others_text xs ++ 10 ∷ [])

-- a line for each row
abbrev pub rows_text : List (Grid ℤ) → List ℕ
rows_text rows = flat_map (λ row. line_text row.cells) rows

-- the rows of a picture, and none where it has no pixels, however many rows it has
abbrev pub pixels_text : Grid ℤ → List ℕ
pixels_text g = if nat_eq (length g.cells) 0 then [] else rows_text (lanes_of g 1).cells

-- a grey picture in plain PGM: its form, the numbers of columns and rows, the greatest pixel, and the rows
abbrev pub picture_text : Grid ℤ → List ℕ
picture_text g = (codes "P2\n" ++ (decimal (slice_index g.lengths 1) ++ (codes " " ++ (decimal (slice_index g.lengths 0) ++ codes "\n255\n")))) ++ pixels_text g

-- a living cell as `#`, a dead one as `.`
abbrev pub mark_of : Bool → ℕ
mark_of alive = if alive then 35 else 46

-- a line for each row of a grid of cells
abbrev pub grid_text : Grid Bool → List ℕ
grid_text g = flat_map (λ row. map mark_of row.cells ++ 10 ∷ []) (lanes_of g 1).cells

-- a line of numbers, each before a blank, and one more
abbrev pub sum_text : List ℤ → ℤ → List ℕ
sum_text xs sum = flat_map (λ x. signed_decimal x ++ 32 ∷ []) xs ++ (signed_decimal sum ++ 10 ∷ [])

-- a table, each row with a sum at its end, and a line of sums below
abbrev pub report_text : Grid ℤ → Grid ℤ → Grid ℤ → ℤ → List ℕ
report_text table rows columns all = flat_map (λ p. sum_text p.0.cells p.1) (zip (lanes_of table 1).cells rows.cells) ++ sum_text columns.cells all
