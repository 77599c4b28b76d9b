-- Triangles: the cells on one side of a diagonal of the last two axes.
use Rattle.std.specs.Prelude.{ℕ, ◌-◌, ℤ, pos, ◌-ℤ◌, int_le, Bool, nat_lt, if◌then◌else◌, List, length, slice_index, Some}
use Rattle.ndarray.specs.Grid.{Grid, cell, tabulate}

-- the column less the row: the last index less the one before it, as a whole number
abbrev pub column_minus_row : List ℕ → ℤ
column_minus_row is = pos (slice_index is (length is - 1)) -ℤ pos (slice_index is (length is - 2))

-- the array with zero in each cell whose column less its row fails the test; with fewer than two axes the array itself
abbrev pub diagonals_kept : {A : Type 0} → (ℤ → Bool) → A → Grid A → Grid A
diagonals_kept keeps zero g =
    if nat_lt (length g.lengths) 2 then g
    else tabulate g.lengths (λ is. if keeps (column_minus_row is) then cell g is else Some zero)

-- the cells where column less row is at least k, and zero elsewhere
abbrev pub upper_triangle : {A : Type 0} → ℤ → A → Grid A → Grid A
upper_triangle k = diagonals_kept (λ d. int_le k d)

-- the cells where column less row is at most k, and zero elsewhere
abbrev pub lower_triangle : {A : Type 0} → ℤ → A → Grid A → Grid A
lower_triangle k = diagonals_kept (λ d. int_le d k)
