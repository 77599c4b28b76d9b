-- What the functions of src/updating compute.
use Rattle.std.specs.Prelude.{ℕ, ℤ, ◌+◌, ◌-◌, ◌*◌, ◌%◌, ◌^◌, ◌==◌, ◌||◌, if◌then◌else◌, List, max, remove, slice_index, take}
use Rattle.std.specs.List.{fold}
use Rattle.ndarray.specs.Grid.{Grid, cell}
use Rattle.ndarray.specs.Integers.{int_sums}
use Rattle.ndarray.specs.Subviews.{lane}
use Rattle.ndarray.specs.Sums.{total}
use Rattle.ndarray_examples.specs.PairedProducts.{number}

-- the cell at an index list of a table, plus ten times its row and its column
abbrev pub index_added : Grid ℕ → List ℕ → ℕ
index_added g is = (number (cell g is) + 10 * slice_index is 0 + slice_index is 1) % 2 ^ 64

-- the cell at an index list of a table, and 0 in its first and last row and column
abbrev pub inside_border : Grid ℕ → List ℕ → ℕ
inside_border g is = if slice_index is 0 == 0 || slice_index is 0 == slice_index g.lengths 0 - 1 || slice_index is 1 == 0 || slice_index is 1 == slice_index g.lengths 1 - 1 then 0 else number (cell g is)

-- the cells of the lane along an axis, up to the one at an index list
abbrev pub up_to : {A : Type 0} → Grid A → ℕ → List ℕ → List A
up_to g axis is = take (slice_index is axis + 1) (lane g axis (remove is axis)).cells

-- their sum
abbrev pub sum_up_to : Grid ℤ → ℕ → List ℕ → ℤ
sum_up_to g axis is = total int_sums (up_to g axis is)

-- the greatest of them
abbrev pub greatest_up_to : Grid ℕ → ℕ → List ℕ → ℕ
greatest_up_to g axis is = fold max 0 (up_to g axis is)

-- each of them plus a factor times the result at the one before, which is 0 at the first
abbrev pub recurrence_at : ℕ → Grid ℕ → ℕ → List ℕ → ℕ
recurrence_at factor g axis is = fold (λ before x. (before * factor + x) % 2 ^ 64) 0 (up_to g axis is)
