-- Inner sums of the lanes of two arrays, as they are pushed one after another.
use Rattle.std.specs.Prelude.{◌≡◌, List, length, map}
use Rattle.ndarray.specs.Grid.{Grid}
use Rattle.ndarray.specs.Products.{products_of}
use Rattle.ndarray.specs.Sums.{IsSummable, total}
use Rattle.ndarray.specs.base.Builder.{BuilderState, PushesValues}
use Rattle.ndarray.specs.declared.elements.Valued.{Ghosts as ValuedGhosts}

module _ {A : Type 0} (e : ValuedGhosts A) where
  -- two vectors have equally many cells, and of the products of these every selection has its sum in range
  abbrev pub CanSumLanes : Grid A → Grid A → Type 0
  CanSumLanes x y = (length x.cells ≡ length y.cells) × IsSummable e.addition e.InRange (products_of e.multiplication e.meaning x.cells y.cells)

  -- the sum of the products of their cells
  abbrev pub lane_sum : Grid A → Grid A → e.Carrier
  lane_sum x y = total e.addition (products_of e.multiplication e.meaning x.cells y.cells)

  -- elements that have the sums of a row and each of some columns as their values were pushed
  abbrev pub PushesSums : Grid A → List (Grid A) → BuilderState A → BuilderState A → Type 0
  PushesSums row columns = PushesValues e.meaning (map (lane_sum row) columns)
