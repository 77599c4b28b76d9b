use Rattle.std.proofs.Common.{◌∙◌, ap}
use Rattle.ndarray.specs.Grid.{array_by}
use Rattle.ndarray.specs.declared.base.shape.Order.TheVariants.{RowMajor}
use Rattle.ndarray.proofs.callers.Collecting.{collect-follows, if_ok-both}
use Rattle.ndarray.proofs.reduce.totals.filled.Goals as goal

pub returns-clause-cells : goal.returns-clause-cells
returns-clause-cells g c =
    if_ok-both c.collect_items.result _ _ _
    (λ r ran whole. collect-follows _ _ _ (λ _. c.args.element) c.of.result.lists.lengths (λ i x z k b s given. given) RowMajor r whole ran ∙ ap (λ ns. array_by ns (λ _. c.args.element)) c.of.ensures)
    c.collect_items.ensures.ran c.collect_items.ensures.whole
