-- The totals of a table.
use Rattle.std.specs.Prelude.{ℕ, ℤ, pos, nat_lt, if◌then◌else◌, List, drop, slice_index}
use Rattle.ndarray.specs.Grid.{Grid, cell}
use Rattle.ndarray.specs.Integers.{int_sums}
use Rattle.ndarray.specs.Products.{value_or}
use Rattle.ndarray.specs.Subviews.{lane}
use Rattle.ndarray.specs.Sums.{total}

-- the sum of the row at an index list of one number, and that of the column
abbrev pub row_total : Grid ℤ → List ℕ → ℤ
row_total table is = total int_sums (lane table 1 is).cells

abbrev pub column_total : Grid ℤ → List ℕ → ℤ
column_total table is = total int_sums (lane table 0 is).cells

-- the cell of a table at an index list, and below its last row the sum of the column
abbrev pub total_below : Grid ℤ → List ℕ → ℤ
total_below table is = if nat_lt (slice_index is 0) (slice_index table.lengths 0) then value_or (λ x. x) (pos 0) (cell table is) else column_total table (drop 1 is)
