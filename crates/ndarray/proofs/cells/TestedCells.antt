-- What operators require, where a test of each pair of cells says that it holds.
use Rattle.std.proofs.Common.{◌≡◌, ℕ, List, Bool, sym, ap, ◌∙◌}
use Rattle.std.specs.Prelude.{IsTrue, ◌↔◌}
use Rattle.ndarray.specs.Broadcast.{BroadcastTogether, BroadcastsTo, broadcast_lengths}
use Rattle.ndarray.specs.Elementwise.{CanAssign, CanCombine}
use Rattle.ndarray.specs.Grid.{Grid, cell}
use Rattle.ndarray.specs.Views.{broadcast_to}
use Rattle.ndarray.proofs.callers.Testing.{HoldsOf}

-- Two arrays that broadcast together, seen as w and z at their lengths broadcast together.
module _ {A B : Type 0} (P : A → B → Type 0) (g w : Grid A) (h z : Grid B) (r : Bool) (shapes : BroadcastTogether g.lengths h.lengths)
    (left : w ≡ broadcast_to g (broadcast_lengths g.lengths h.lengths)) (right : z ≡ broadcast_to h (broadcast_lengths g.lengths h.lengths))
    (tested : IsTrue r ↔ ((is : List ℕ) → HoldsOf P w z is)) where
  pub tested-combine : IsTrue r ↔ CanCombine g h P
  tested-combine = (
    λ on. record { shapes = shapes; defined = λ is x y at. tested.0 on is x y (ap (λ v. cell v is) left ∙ at.left) (ap (λ v. cell v is) right ∙ at.right) },
    λ can. tested.1 (λ is x y l k. can.defined is x y (record { left = ap (λ v. cell v is) (sym left) ∙ l; right = ap (λ v. cell v is) (sym right) ∙ k })),
  )

-- An array, and another that broadcasts to its lengths, seen as z there.
module _ {A B : Type 0} (P : A → B → Type 0) (g : Grid A) (h z : Grid B) (r : Bool) (shapes : BroadcastsTo h.lengths g.lengths)
    (right : z ≡ broadcast_to h g.lengths) (tested : IsTrue r ↔ ((is : List ℕ) → HoldsOf P g z is)) where
  pub tested-assign : IsTrue r ↔ CanAssign P g h
  tested-assign = (
    λ on. record { shapes = shapes; defined = λ is x y at. tested.0 on is x y at.0 (ap (λ v. cell v is) right ∙ at.1) },
    λ can. tested.1 (λ is x y l k. can.defined is x y (l, ap (λ v. cell v is) (sym right) ∙ k)),
  )

-- what one operation requires is what another does where it is defined wherever the first is
module _ {A B : Type 0} (P Q : A → B → Type 0) (g : Grid A) (h : Grid B) (more : (x : A) (y : B) → P x y → Q x y) where
  pub combine-more : CanCombine g h P → CanCombine g h Q
  combine-more can = record { shapes = can.shapes; defined = λ is x y at. more x y (can.defined is x y at) }

  pub assign-more : CanAssign P g h → CanAssign Q g h
  assign-more can = record { shapes = can.shapes; defined = λ is x y at. more x y (can.defined is x y at) }
