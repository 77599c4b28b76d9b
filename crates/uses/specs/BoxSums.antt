-- Sums of the windows of a table, directly and by a table of summed areas.
use Rattle.std.specs.Prelude.{◌≡◌, ◌≤◌, ℕ, zero, suc, ◌+◌, ◌-ℤ◌, ℤ, pos, FitsSigned, [], ◌∷◌, Some}
use Rattle.std.specs.Int.{w64}
use Rattle.ndarray.specs.Grid.{Grid, IsGrid, array_by, cell}
use Rattle.ndarray.specs.Integers.{int_sums}
use Rattle.ndarray.specs.Products.{value_or}
use Rattle.ndarray.specs.ScanLaws.{rectangle}
use Rattle.ndarray.specs.Subviews.{window, window_counts}
use Rattle.ndarray.specs.Sums.{IsSummable, total}

-- of each window of so many rows and columns, the sum of its cells
abbrev pub box_sums : ℕ → ℕ → Grid ℤ → Grid ℤ
box_sums rows columns table = array_by (window_counts table.lengths (rows ∷ columns ∷ []) (1 ∷ 1 ∷ [])) (λ is. total int_sums (window table (rows ∷ columns ∷ []) (1 ∷ 1 ∷ []) is).cells)

-- a window has rows and columns, and every selection of the table's cells has its sum in range
pub record CanSumBoxes (rows columns : ℕ) (table : Grid ℤ) : Type 0 where
  pub height : 1 ≤ rows
  pub width : 1 ≤ columns
  pub fits : IsSummable int_sums (FitsSigned w64) table.cells

-- summed areas: at each row and column the sum of all rows up to there, and of these all columns up to there
pub record AreSummedAreas (table areas : Grid ℤ) : Type 0 where
  pub lengths : areas.lengths ≡ table.lengths
  pub whole : IsGrid areas
  pub sums : (i j : ℕ) (z : ℤ) → cell areas (i ∷ j ∷ []) ≡ Some z → z ≡ total int_sums (rectangle table 0 (i + 1) 0 (j + 1)).cells

-- the sum of so many first rows, and of these so many first columns, out of summed areas
abbrev pub area : Grid ℤ → ℕ → ℕ → ℤ
area areas zero columns = pos 0
area areas (suc i) zero = pos 0
area areas (suc i) (suc j) = value_or (λ x. x) (pos 0) (cell areas (i ∷ j ∷ []))

-- that of the rows from one up to another, and of these the first columns
abbrev pub band : Grid ℤ → ℕ → ℕ → ℕ → ℤ
band areas from to columns = area areas to columns -ℤ area areas from columns
