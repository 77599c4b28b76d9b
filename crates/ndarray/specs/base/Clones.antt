-- Clones of an array's cells, as an answer.
use Rattle.std.specs.Prelude.{◌≡◌, ℕ, Result, IfOk, IsOk, length}
use Rattle.std.specs.List.{AllZip}
use Rattle.ndarray.specs.Grid.{Grid, IsGrid}
use Rattle.ndarray.specs.Index.{size}

-- an array of the same lengths with clones of the cells, or a failure; not that where there is no cell
pub record MakesClones {A E : Type 0} (has_axes : ℕ → Type 0) (is_clone : A → A → Type 0) (g : Grid A) (r : Result (Grid A) E) : Type 0 where
  pub lengths : IfOk r (λ a. a.lengths ≡ g.lengths)
  pub axes : IfOk r (λ a. has_axes (length a.lengths))
  pub cells : IfOk r (λ a. AllZip is_clone g.cells a.cells)
  pub whole : IfOk r IsGrid
  pub same : IfOk r (λ a. ((x y : A) → is_clone x y → y ≡ x) → a ≡ g)
  pub empty : size g.lengths ≡ 0 → IsOk r
