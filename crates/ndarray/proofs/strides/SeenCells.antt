-- The cells of an array, by the places where they lie.
use Rattle.std.proofs.Common.{◌≡◌, ◌∙◌, ℕ, List, Option, ap, length, subst, sym}
use Rattle.ndarray.specs.Grid.{Grid, cell}
use Rattle.ndarray.specs.Index.{InBox, size}
use Rattle.ndarray.specs.base.Places.{Reaches, grid_at, place}
use Rattle.ndarray.proofs.strides.Reach.{cell-at, length-cells_at}

module _ {A one : Type 0} (at : ℕ → Option A) (ns : List ℕ) (start : ℕ) (bs : List ℕ) (g : Grid A) (h : Reaches one at ns start bs) (seen : grid_at at ns start bs ≡ g) where
  pub size-seen : size ns ≡ length g.cells
  size-seen = sym (length-cells_at at ns start bs h) ∙ ap (λ v. length v.cells) seen

  pub cell-seen : (is : List ℕ) → InBox g.lengths is → at (place start bs is) ≡ cell g is
  cell-seen is inside = sym (ap (λ v. cell v is) (sym seen) ∙ cell-at at ns start bs h is (subst (λ v. InBox v.lengths is) (sym seen) inside))
