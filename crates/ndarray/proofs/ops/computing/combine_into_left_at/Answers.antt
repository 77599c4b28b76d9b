use Rattle.std.proofs.Common.{◌≡◌, ◌∙◌, ap, refl, rules, subst, sym, List, ℕ, Some}
use Rattle.std.specs.Prelude.{⊤}
use Rattle.core.specs.Result.{IfOk}
use Rattle.ndarray.specs.Broadcast.{broadcast_lengths}
use Rattle.ndarray.specs.Elementwise.{AreCellsAt, Combines}
use Rattle.ndarray.specs.Grid.{IsGrid, cell}
use Rattle.ndarray.specs.Index.{size}
use Rattle.ndarray.specs.Views.{broadcast_to}
use Rattle.ndarray.proofs.callers.Collecting.{if_ok-both, may-gather}
use Rattle.ndarray.proofs.cells.Elementwise.{combines-of}
use Rattle.ndarray.proofs.cells.UpdatedCells.{stopped-never, stopped-none}
use Rattle.ndarray.proofs.views.OwnLengths.{broadcast_to-own}
use Rattle.ndarray.proofs.ops.computing.combine_into_left_at.Goals as goal
use Rattle.ndarray.proofs.ops.computing.combine_into_left_at.Goals.{After-into_broadcast}

-- the left array's cells and the right array, both as they are seen at the lengths of the result
module _ (g : _) (c : After-into_broadcast g) where
  abbrev ns : List ℕ
  ns = broadcast_lengths c.args.left.lengths c.args.right.lengths

  left : c.in-Ok.cells ≡ broadcast_to c.args.left ns
  left =
      let equal : c.slice.result.now ≡ c.shape.result.now = search rules in
      let own : ns ≡ c.args.left.lengths = sym c.requires.lengths ∙ (sym c.slice.ensures.value ∙ (equal ∙ c.shape.ensures.value)) in
      let same = c.in-Ok.ensures.value in
      same ∙ (sym (broadcast_to-own c.args.left (subst IsGrid same c.in-Ok.ensures.whole)) ∙ ap (broadcast_to c.args.left) (sym own))

  right : c.into_broadcast.result ≡ broadcast_to c.args.right ns
  right = c.into_broadcast.ensures.seen ∙ ap (broadcast_to c.args.right) c.requires.lengths

  cells-at : (i : List ℕ) (x : g.row.A.Denot) (y : g.row.B.Denot) → cell c.in-Ok.cells i ≡ Some x → cell c.into_broadcast.result i ≡ Some y → AreCellsAt c.args.left c.args.right i x y
  cells-at i x y p q = record { left = ap (λ v. cell v i) (sym left) ∙ p; right = ap (λ v. cell v i) (sym right) ∙ q }

pub update_cells_beside-requires-clause-same : goal.update_cells_beside-requires-clause-same
update_cells_beside-requires-clause-same g c = ap (λ v. v.lengths) (right g c) ∙ sym (ap (λ v. v.lengths) (left g c))

pub update_cells_beside-requires-clause-callable : goal.update_cells_beside-requires-clause-callable
update_cells_beside-requires-clause-callable g c = λ o.
    may-gather _ _ _ _ (λ i x r k s h. refl) _ o
    (λ i x b s. (c.requires.can.defined i x.0 x.1.now (cells-at g c i x.0 x.1.now s.0 s.1), c.requires.left_clones, c.requires.right_clones))

pub returns-then-ne : goal.returns-then-ne
returns-then-ne g c =
    let same = c.view.ensures.same in
    record {
      made = subst (λ v. IfOk c.combine_at.result (Combines v c.args.right g.O.Operation.apply_gives)) same c.combine_at.ensures.made;
      axes = c.combine_at.ensures.axes;
      empty = λ none. c.combine_at.ensures.empty (ap (λ v. size (broadcast_lengths v.lengths c.args.right.lengths)) same ∙ none);
      in_place = λ own left_ok right_ok. let equal : c.slice.result.now ≡ c.shape.result.now = c.slice.ensures.value ∙ (c.requires.lengths ∙ (own ∙ sym c.shape.ensures.value)) in absurd (search (rules, equal));
    }

pub returns : goal.returns
returns g c =
    let here = (goal.at.returns g c).After-into_broadcast in
    let e = c.update_cells_beside.ensures in
    record {
      made = if_ok-both c.update_cells_beside.result _ _ _
          (λ r ran whole. combines-of _ _ (λ _. ⊤) (λ f x z h n k. tt) ran.0 _ tt r whole c.args.left c.args.right (λ x. x.0) (λ x. x.1.now) _
          (λ i x s. cells-at g here i x.0 x.1.now s.0 s.1) (λ f x z h n k. k.0) _ (ap (λ v. v.lengths) (left g here)) ran.1)
          e.ran e.whole;
      axes = e.axes;
      empty = λ none. stopped-none _ _ _ _ c.update_cells_beside.result (ap (λ v. size v.lengths) (left g here) ∙ none) e.stopped;
      in_place = λ lengths left_ok right_ok. stopped-never _ _ _ _ (λ _. ⊤) (λ f x a h n k. tt) tt
          (λ i f x e h n y k. let ok = k.1 (left_ok x.0) (right_ok x.1.now) in absurd (cc)) c.update_cells_beside.result e.stopped;
    }
