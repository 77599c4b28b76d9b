use Rattle.ndarray.proofs.Common.{difference-length, order-at_most}
use Rattle.ndarray_examples.proofs.laws.differences_in_turn.Goals as goal

pub diff-requires-2-clause-axis : goal.diff-requires-2-clause-axis
diff-requires-2-clause-axis g c = ((c.diff_adds.ensures.defined c.args.axis.0 c.args.m c.args.n c.args.a.now c.requires).1 c.in_ok-first.first c.in_ok-first.ensures.differences).axis_is

pub diff-requires-2-clause-order : goal.diff-requires-2-clause-order
diff-requires-2-clause-order g c = ((c.diff_adds.ensures.defined c.args.axis.0 c.args.m c.args.n c.args.a.now c.requires).1 c.in_ok-first.first c.in_ok-first.ensures.differences).order

pub diff-requires-2-clause-defined : goal.diff-requires-2-clause-defined
diff-requires-2-clause-defined g c = ((c.diff_adds.ensures.defined c.args.axis.0 c.args.m c.args.n c.args.a.now c.requires).1 c.in_ok-first.first c.in_ok-first.ensures.differences).defined

pub returns-clause-empty : goal.returns-clause-empty
returns-clause-empty g c =
    λ none.
    c.diff-2.ensures.empty
    ((difference-length g.A.Sub.sub_gives c.args.axis.0 c.args.a.now c.args.m c.in_ok-first.first c.requires.axis_is (order-at_most c.args.m _ ((c.diff_adds.ensures.defined c.args.axis.0 c.args.m c.args.n c.args.a.now c.requires).0.order)) c.in_ok-first.ensures.differences).2 none)
