use Rattle.std.proofs.Common.{◌∙◌, Some, ap, sym, subst}
use Rattle.std.specs.Prelude.{⊤}
use Rattle.ndarray.specs.Grid.{IsGrid, cell}
use Rattle.ndarray.specs.Index.{InBox}
use Rattle.ndarray.proofs.callers.Collecting.{if_ok-both}
use Rattle.ndarray.proofs.cells.Cells.{cell-Some, same_grid}
use Rattle.ndarray.proofs.cells.CollectedCells.{Collects-at}
use Rattle.ndarray.proofs.reduce.diff.copy_of.Goals as goal

pub returns-clause-same : goal.returns-clause-same
returns-clause-same g c =
    let same = c.view.ensures.same in
    if_ok-both c.collect_in_either_order.result _ _ _
    (λ r ran whole. same_grid r c.args.array.now whole (subst (λ v. IsGrid v) same c.view.ensures.whole) (ran.1.lengths ∙ ap (λ v. v.lengths) same)
    (λ is b.
    let (z, e) = cell-Some r whole is b in
    let k = Collects-at _ _ (λ _. ⊤) _ (λ i f x z h b y n s. tt) ran.0 _ r tt ran.1 is (subst (λ ns. InBox ns is) ran.1.lengths b) z e in
    e ∙ (ap Some k.given ∙ sym (ap (λ v. cell v is) (sym same) ∙ k.yielded))))
    c.collect_in_either_order.ensures.ran c.collect_in_either_order.ensures.whole
