-- Words are read in one way.
use Rattle.std.proofs.Common.{◌≡◌, ℕ, ℤ, List, [], ◌∷◌, ◌++◌, length, take, drop, map, sym, ap, ◌∙◌, subst}
use Rattle.std.proofs.lemmas.List.{length-map}
use Rattle.std.proofs.Math.Seq.{drop-append_seam, take-append_seam}
use Rattle.std.specs.Str.Parse.{digits_value, signed_digits_value}
use Rattle.ndarray.specs.Grid.{Grid}
use Rattle.ndarray.specs.Index.{size}
use Rattle.ndtables.specs.Reading.{ReadsAxisAndTable, ReadsCount, ReadsNumbers, ReadsTable, ReadsTables}
use Rattle.ndtables.specs.Spelling.{SpellsShape}
use Rattle.ndtables.proofs.ShapeWords.{one-shape}

abbrev Words : Type 0
Words = List (List ℕ)

-- the first word, and the others
first_of : Words → List ℕ
first_of [] = []
first_of (w ∷ ws) = w

others_of : Words → Words
others_of [] = []
others_of (w ∷ ws) = ws

pub same-first : (w v : List ℕ) (ws vs : Words) → w ∷ ws ≡ v ∷ vs → w ≡ v
unfolding first_of
same-first w v ws vs e = ap first_of e

pub same-others : (w v : List ℕ) (ws vs : Words) → w ∷ ws ≡ v ∷ vs → ws ≡ vs
unfolding others_of
same-others w v ws vs e = ap others_of e

-- arrays of the same lengths and cells
pub same-grid : (g h : Grid ℤ) → g.lengths ≡ h.lengths → g.cells ≡ h.cells → g ≡ h
same-grid g h e f =
    ap (λ ns. let grid : Grid ℤ = record { lengths = ns; cells = g.cells } in grid) e
    ∙ ap (λ xs. let grid : Grid ℤ = record { lengths = h.lengths; cells = xs } in grid) f

pub count-words : (words rest more : Words) (n m : ℕ) → ReadsCount words rest n → ReadsCount words more m → (rest ≡ more) × (n ≡ m)
count-words words rest more n m a b =
    let e : a.word ∷ rest ≡ b.word ∷ more = sym a.words ∙ b.words in
    (same-others a.word b.word rest more e, a.value ∙ (ap (digits_value 10) (same-first a.word b.word rest more e) ∙ sym b.value))

-- lists that begin two partings of one list, and are as long
parted : (xs us ys vs : Words) → xs ++ us ≡ ys ++ vs → length xs ≡ length ys → (xs ≡ ys) × (us ≡ vs)
parted xs us ys vs e n = (
  sym (take-append_seam xs us) ∙ (ap (take (length xs)) e ∙ (ap (λ k. take k (ys ++ vs)) n ∙ take-append_seam ys vs)),
  sym (drop-append_seam xs us) ∙ (ap (drop (length xs)) e ∙ (ap (λ k. drop k (ys ++ vs)) n ∙ drop-append_seam ys vs)),
)

pub as-many_words : (old new : Words) (xs : List ℤ) (r : ReadsNumbers old new xs) → length xs ≡ length r.read
as-many_words old new xs r = ap length r.values ∙ length-map r.read (signed_digits_value 10)

pub number-words : (old new more : Words) (xs ys : List ℤ) → ReadsNumbers old new xs → ReadsNumbers old more ys → length xs ≡ length ys → (new ≡ more) × (xs ≡ ys)
number-words old new more xs ys a b n =
    let as_many : length a.read ≡ length b.read = sym (as-many_words old new xs a) ∙ (n ∙ as-many_words old more ys b) in
    let (read, left) = parted a.read new b.read more (sym a.words ∙ b.words) as_many in
    (left, a.values ∙ (ap (map (signed_digits_value 10)) read ∙ sym b.values))

pub table-words : (words rest more : Words) (g h : Grid ℤ) → ReadsTable words rest g → ReadsTable words more h → (rest ≡ more) × (g ≡ h)
table-words words rest more g h a b =
    let e : a.word ∷ a.rest ≡ b.word ∷ b.rest = sym a.words ∙ b.words in
    let word = same-first a.word b.word a.rest b.rest e in
    let lengths : g.lengths ≡ h.lengths = one-shape b.word g.lengths h.lengths a.order b.order (subst (λ w. SpellsShape w g.lengths a.order) word a.shape) b.shape in
    let as_many : length g.cells ≡ length h.cells = a.whole ∙ (ap size lengths ∙ sym b.whole) in
    let cells = subst (λ ws. ReadsNumbers ws rest g.cells) (same-others a.word b.word a.rest b.rest e) a.cells in
    let (left, same) = number-words b.rest rest more g.cells h.cells cells b.cells as_many in
    (left, same-grid g h lengths same)

pub two-tables_words : (words : Words) (g h i j : Grid ℤ) → ReadsTables words g h → ReadsTables words i j → (g ≡ i) × (h ≡ j)
two-tables_words words g h i j a b =
    let (rest, left) = table-words words a.rest b.rest g i a.read_left b.read_left in
    (left, (table-words b.rest [] [] h j (subst (λ ws. ReadsTable ws [] h) rest a.read_right) b.read_right).1)

pub axis-and_table_words : (words : Words) (k l : ℕ) (g h : Grid ℤ) → ReadsAxisAndTable words k g → ReadsAxisAndTable words l h → (k ≡ l) × (g ≡ h)
axis-and_table_words words k l g h a b =
    let (rest, axis) = count-words words a.rest b.rest k l a.read_axis b.read_axis in
    (axis, (table-words b.rest [] [] g h (subst (λ ws. ReadsTable ws [] g) rest a.read_table) b.read_table).1)
