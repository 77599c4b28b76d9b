-- A table minus the means of its columns.
use Rattle.std.specs.Prelude.{ℕ, ℤ, pos, ◌-ℤ◌, List, drop, int_div, slice_index}
use Rattle.ndarray.specs.Grid.{Grid, cell}
use Rattle.ndarray.specs.Integers.{int_sums}
use Rattle.ndarray.specs.Subviews.{lane}
use Rattle.ndarray.specs.Sums.{total}
use Rattle.ndarray_examples.specs.Callers.{whole_number}

-- the total of the column at an index list, divided by the number of rows
abbrev pub column_mean : Grid ℤ → List ℕ → ℤ
column_mean table js = int_div (total int_sums (lane table 0 js).cells) (pos (slice_index table.lengths 0))

-- the number at an index list, minus the mean of its column
abbrev pub centred_at : Grid ℤ → List ℕ → ℤ
centred_at table is = whole_number (cell table is) -ℤ column_mean table (drop 1 is)
