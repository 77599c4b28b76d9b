-- An array after `update` with a closure that computes a function of the index list and the old cell.
use Rattle.std.proofs.Common.{◌≡◌, ◌∙◌, ap, ℕ, List, Some, sym, subst}
use Rattle.ndarray.specs.Grid.{Grid, IsGrid, array_by, cell}
use Rattle.ndarray.specs.Index.{InBox}
use Rattle.ndarray.specs.IndexedUpdates.{is_pattern_and_cell}
use Rattle.ndarray.specs.Runs.{Collects}
use Rattle.ndarray.specs.declared.base.shape.Order.{Order}
use Rattle.ndarray.proofs.callers.Collecting.{collect-follows}

-- Each call at an index list of the box and its old cell leaves the closure as it was and answers h of the index list.
module _ {F A X : Type 0} (numbers : X → List ℕ) (call_gives : F → X × A → A → F → Type 0) (f : F) (old : Grid A) (h : List ℕ → A)
    (each : (x : X) (a r : A) (k : F) → InBox old.lengths (numbers x) → cell old (numbers x) ≡ Some a → call_gives f (x, a) r k → (k ≡ f) × (r ≡ h (numbers x))) where
  pub update-follows : (o : Order) (new : Grid A) → IsGrid new → Collects (is_pattern_and_cell numbers old) call_gives o old.lengths f new → new ≡ array_by old.lengths h
  update-follows o new whole ran = collect-follows (is_pattern_and_cell numbers old) call_gives f h old.lengths
      (λ i x r k inside shown call.
      let place : numbers x.0 ≡ i = shown.0 in
      let done = each x.0 x.1 r k (subst (InBox old.lengths) (sym place) inside) (ap (cell old) place ∙ shown.1) call in
      (done.0, done.1 ∙ ap h place))
      o new whole ran
