-- How a table keeps its cells.
use Rattle.std.specs.Prelude.{◌≡◌, ℕ, List, length}
use Rattle.ndarray.specs.Grid.{Grid, beside, tabulate}
use Rattle.ndarray.specs.Index.{size}
use Rattle.ndarray.specs.Limits.{IsWithinLimit}
use Rattle.ndarray.specs.Orders.{box_in}
use Rattle.ndarray.specs.declared.base.shape.Order.{Order}

-- the array of lengths ns whose cells in the named order are xs
abbrev pub stored_array : {A : Type 0} → Order → List ℕ → List A → Grid A
stored_array order ns xs = tabulate ns (beside (box_in order ns) xs)

-- the lengths are within the limit, and there are as many cells as index lists
pub record IsStored {A : Type 0} (ns : List ℕ) (xs : List A) : Type 0 where
  pub limit : IsWithinLimit ns
  pub as_many : length xs ≡ size ns
