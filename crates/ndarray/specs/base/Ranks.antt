-- How many index lists come before one, which axis varies how fast, and index lists in a row: for `base`, `order`, `places`, `iter` and `stacking`.
use Rattle.std.specs.Prelude.{ℕ, zero, suc, ◌+◌, ◌-◌, ◌*◌, List, [], ◌∷◌, length, take, drop, slice_set, slice_index}
use Rattle.ndarray.specs.Index.{size}
use Rattle.ndarray.specs.declared.base.shape.Order.{Order}
use Rattle.ndarray.specs.declared.base.shape.Order.TheVariants.{RowMajor, ColumnMajor}

-- how many index lists come before this one in row order
unfoldable pub rank : List ℕ → List ℕ → ℕ
rank [] is = 0
rank (n ∷ ns) [] = 0
rank (n ∷ ns) (i ∷ is) = i * size ns + rank ns is

-- how many index lists come before this one in column order
unfoldable pub column_rank : List ℕ → List ℕ → ℕ
column_rank [] is = 0
column_rank (n ∷ ns) [] = 0
column_rank (n ∷ ns) (i ∷ is) = i + n * column_rank ns is

abbrev pub rank_in : Order → List ℕ → List ℕ → ℕ
rank_in RowMajor ns is = rank ns is
rank_in ColumnMajor ns is = column_rank ns is

-- the axis that varies p-th fastest, of n
abbrev pub axis_in : Order → ℕ → ℕ → ℕ
axis_in RowMajor n p = n - 1 - p
axis_in ColumnMajor n p = p

-- the size of the box of the p axes that vary fastest
abbrev pub block_in : Order → List ℕ → ℕ → ℕ
block_in RowMajor ns p = size (drop (length ns - p) ns)
block_in ColumnMajor ns p = size (take p ns)

-- n index lists from is on, each with an index on the axis that is one larger
abbrev pub row_from : List ℕ → ℕ → ℕ → List (List ℕ)
row_from is axis zero = []
row_from is axis (suc n) = is ∷ row_from (slice_set is axis (slice_index is axis + 1)) axis n

-- the index list that comes c after one along an axis
abbrev pub row_at : List ℕ → ℕ → ℕ → List ℕ
row_at is axis c = slice_set is axis (slice_index is axis + c)
