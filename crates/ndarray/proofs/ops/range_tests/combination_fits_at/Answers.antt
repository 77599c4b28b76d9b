use Rattle.std.proofs.Common.{◌≡◌, ◌∙◌, ap}
use Rattle.ndarray.specs.Broadcast.{broadcast_lengths}
use Rattle.ndarray.specs.Views.{broadcast_to}
use Rattle.ndarray.proofs.cells.TestedCells.{combine-more, tested-combine}
use Rattle.ndarray.proofs.ops.range_tests.combination_fits_at.Goals as goal

pub returns-clause-exact : goal.returns-clause-exact
returns-clause-exact g c =
    let a = c.args.left.now in
    let b = c.args.right.now in
    let left : c.into_broadcast-left.result ≡ broadcast_to a (broadcast_lengths a.lengths b.lengths) =
    c.into_broadcast-left.ensures.seen ∙ (ap (λ v. broadcast_to v (g.R.Lengths.numbers c.copied.result)) c.view.ensures.same ∙ ap (broadcast_to a) (c.copied.ensures.value ∙ c.requires.lengths)) in
    let right : c.into_broadcast-right.result ≡ broadcast_to b (broadcast_lengths a.lengths b.lengths) =
    c.into_broadcast-right.ensures.seen ∙ (ap (λ v. broadcast_to v (g.R.Lengths.numbers c.args.dim)) c.view-2.ensures.same ∙ ap (broadcast_to b) c.requires.lengths) in
    tested-combine g.O.RangeTest.result_fits a c.into_broadcast-left.result b c.into_broadcast-right.result c.pairs_fit.result c.requires.shapes left right c.pairs_fit.ensures

pub returns-clause-defined : goal.returns-clause-defined
returns-clause-defined g c = λ on. combine-more _ _ _ _ g.met.O.RangeTest.defined ((returns-clause-exact g c).0 on)
