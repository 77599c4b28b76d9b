-- What the functions of src/lib.rt and src/tables.rt compute.
use Rattle.std.specs.Prelude.{ℕ, ℤ, pos, ◌-◌, ◌+ℤ◌, ◌/◌, ◌==◌, if◌then◌else◌, Bool, false, FitsSigned, List, [], ◌∷◌, Option, Some, None, drop, max, slice_index}
use Rattle.std.specs.Int.{w64}
use Rattle.std.specs.List.{fold}
use Rattle.ndarray.specs.Grid.{Grid, cell}
use Rattle.ndarray.specs.Integers.{int_sums}
use Rattle.ndarray.specs.Matrices.{Matrix}
use Rattle.ndarray.specs.Products.{matrix_entries}
use Rattle.ndarray.specs.Subviews.{window}
use Rattle.ndarray.specs.Sums.{IsSummable, total}
use Rattle.ndarray.specs.Views.{broadcast_to}
use Rattle.ndarray_examples.specs.PairedProducts.{number}
use Rattle.residue.specs.Residue.{Below, modulus_pos, residue_products, residue_sums}

-- half of the cell at an index list
abbrev pub half_at : Grid ℕ → List ℕ → ℕ
half_at g is = number (cell g is) / 2

-- the cell at an index list of a table, and 0 on the diagonal
abbrev pub off_diagonal : Grid ℕ → List ℕ → ℕ
off_diagonal g is = if slice_index is 0 == slice_index is 1 then 0 else number (cell g is)

-- the greater one of the cell at an index list and the cell there of another array, which is broadcast
abbrev pub greater_at : Grid ℕ → Grid ℕ → List ℕ → ℕ
greater_at g h is = max (number (cell g is)) (number (cell (broadcast_to h g.lengths) is))

-- the greatest pixel of the square of three by three pixels that begins at an index list
abbrev pub greatest_in_square : Grid ℕ → List ℕ → ℕ
greatest_in_square image is = fold max 0 (window image (3 ∷ 3 ∷ []) (1 ∷ 1 ∷ []) is).cells

-- what is left of a whole at the cell at an index list
abbrev pub rest_at : ℕ → Grid ℕ → List ℕ → ℕ
rest_at whole g is = whole - number (cell g is)

-- a cell that is there passes the test
abbrev pub passes : {A : Type 0} → (A → Bool) → Option A → Bool
passes test None = false
passes test (Some x) = test x

-- the whole number at an index list, and 0 outside the box
abbrev pub whole_number : Option ℤ → ℤ
whole_number None = pos 0
whole_number (Some x) = x

-- the sum of the cells of two arrays at an index list
abbrev pub sum_at : Grid ℤ → Grid ℤ → List ℕ → ℤ
sum_at g h is = whole_number (cell g is) +ℤ whole_number (cell h is)

-- the sum of the cell of a table at an index list, and of the cell of a row at the list's other indices
abbrev pub sum_below : Grid ℤ → Grid ℤ → List ℕ → ℤ
sum_below table row is = whole_number (cell table is) +ℤ whole_number (cell row (drop 1 is))

-- the residue at an index list, and 0 outside the box
abbrev pub residue : Option (Below 5) → Below 5
residue None = (residue_sums 5 (modulus_pos 5)).unit
residue (Some x) = x

-- the cell of a table of residues modulo 5 at an index list, plus a multiple of the cell of a row at the list's other indices
abbrev pub multiple_added : Below 5 → Grid (Below 5) → Grid (Below 5) → List ℕ → Below 5
multiple_added factor table row is = (residue_sums 5 (modulus_pos 5)).op (residue (cell table is)) ((residue_products 5 (modulus_pos 5)).op factor (residue (cell row (drop 1 is))))

-- the cell of a table of residues modulo 5 at an index list, and the value of a matrix there, added
abbrev pub product_added : Matrix (Below 5) → Grid (Below 5) → List ℕ → Below 5
product_added product table is = (residue_sums 5 (modulus_pos 5)).op (residue (cell table is)) (matrix_entries product is)

-- the sum of all cells
abbrev pub sum_of : Grid ℤ → ℤ
sum_of g = total int_sums g.cells

-- the sum of every selection of the cells is an i64
abbrev pub AreSumsInRange : Grid ℤ → Type 0
AreSumsInRange g = IsSummable int_sums (FitsSigned w64) g.cells
