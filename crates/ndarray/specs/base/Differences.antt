-- Differences along an axis, as an answer.
use Rattle.std.specs.Prelude.{◌≡◌, ℕ, Result, IfOk, IsOk, length}
use Rattle.ndarray.specs.AlongAxis.{IsDifferenceOf}
use Rattle.ndarray.specs.Grid.{Grid}
use Rattle.ndarray.specs.Index.{size}

-- the differences of an order, or allocation failure; not that where the array has no cell
pub record MakesDifferences {A E : Type 0} (has_axes : ℕ → Type 0) (gives : A → A → A → Type 0) (axis n : ℕ) (g : Grid A) (r : Result (Grid A) E) : Type 0 where
  pub differences : IfOk r (IsDifferenceOf gives axis n g)
  pub axes : IfOk r (λ c. has_axes (length c.lengths))
  pub empty : size g.lengths ≡ 0 → IsOk r
