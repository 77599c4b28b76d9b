use Rattle.std.proofs.Common.{◌≡◌, ◌∙◌, ap, refl, sym, List, ℕ, Some}
use Rattle.std.specs.Prelude.{⊤}
use Rattle.ndarray.specs.Broadcast.{broadcast_lengths}
use Rattle.ndarray.specs.Elementwise.{AreCellsAt}
use Rattle.ndarray.specs.Grid.{cell}
use Rattle.ndarray.specs.Index.{size}
use Rattle.ndarray.specs.Views.{broadcast_to}
use Rattle.ndarray.proofs.callers.Collecting.{if_ok-both, may-gather}
use Rattle.ndarray.proofs.cells.Elementwise.{combines-of}
use Rattle.ndarray.proofs.ops.computing.combine_at.Goals as goal
use Rattle.ndarray.proofs.ops.computing.combine_at.Goals.{After-into_broadcast-2}

-- the two arrays, as they are seen at the lengths of the result
module _ (g : _) (c : After-into_broadcast-2 g) where
  abbrev ns : List ℕ
  ns = broadcast_lengths c.args.left.lengths c.args.right.lengths

  left : c.into_broadcast.result ≡ broadcast_to c.args.left ns
  left = c.into_broadcast.ensures.seen ∙ ap (broadcast_to c.args.left) (c.copied.ensures.value ∙ c.requires.lengths)

  right : c.into_broadcast-2.result ≡ broadcast_to c.args.right ns
  right = c.into_broadcast-2.ensures.seen ∙ ap (broadcast_to c.args.right) c.requires.lengths

  cells-at : (i : List ℕ) (x : g.row.A.Denot) (y : g.row.B.Denot) → cell c.into_broadcast.result i ≡ Some x → cell c.into_broadcast-2.result i ≡ Some y → AreCellsAt c.args.left c.args.right i x y
  cells-at i x y p q = record { left = ap (λ v. cell v i) (sym left) ∙ p; right = ap (λ v. cell v i) (sym right) ∙ q }

pub try_collect_of_both-requires-clause-callable : goal.try_collect_of_both-requires-clause-callable
try_collect_of_both-requires-clause-callable g c = λ o.
    may-gather _ _ _ _ (λ i x r k s h. refl) _ o
    (λ i x b s. (c.requires.can.defined i x.0.now x.1.now (cells-at g c i x.0.now x.1.now s.0 s.1), c.requires.left_clones, c.requires.right_clones))

pub returns : goal.returns
returns g c =
    let here = (goal.at.returns g c).After-into_broadcast-2 in
    record {
      made = if_ok-both c.try_collect_of_both.result _ _ _
          (λ r ran whole. combines-of _ _ (λ _. ⊤) (λ f x z h n k. tt) ran.0 _ tt r whole c.args.left c.args.right (λ x. x.0.now) (λ x. x.1.now) _
          (λ i x s. cells-at g here i x.0.now x.1.now s.0 s.1) (λ f x z h n k. k) _ (ap (λ v. v.lengths) (left g here)) ran.1)
          c.try_collect_of_both.ensures.ran c.try_collect_of_both.ensures.whole;
      axes = c.try_collect_of_both.ensures.axes;
      empty = λ none. c.try_collect_of_both.ensures.empty (ap (λ v. size v.lengths) (left g here) ∙ none);
    }
