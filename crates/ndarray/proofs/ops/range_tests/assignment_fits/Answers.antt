use Rattle.std.proofs.Common.{◌≡◌, ◌∙◌, ap, refl, subst}
use Rattle.ndarray.specs.Broadcast.{BroadcastsTo}
use Rattle.ndarray.specs.Views.{broadcast_to}
use Rattle.ndarray.proofs.cells.TestedCells.{assign-more, tested-assign}
use Rattle.ndarray.proofs.ops.range_tests.assignment_fits.Goals as goal

pub returns-clause-exact : goal.returns-clause-exact
returns-clause-exact g c =
    let a = c.args.left.now in
    let b = c.args.right.now in
    let shapes : BroadcastsTo b.lengths a.lengths = subst (BroadcastsTo b.lengths) c.raw_dim.ensures.lengths (c.in-Some.ensures.answers.0 refl).0 in
    let right : c.in-Some.right ≡ broadcast_to b a.lengths = c.in-Some.ensures.value ∙ ap (broadcast_to b) c.raw_dim.ensures.lengths in
    tested-assign g.O.RangeTest.result_fits a b c.in-Some.right c.pairs_fit.result shapes right c.pairs_fit.ensures

pub returns-clause-defined : goal.returns-clause-defined
returns-clause-defined g c = λ on. assign-more _ _ _ _ g.met.O.RangeTest.defined ((returns-clause-exact g c).0 on)
