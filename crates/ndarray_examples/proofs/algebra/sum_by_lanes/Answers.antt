use Rattle.ndarray.proofs.Common.{rules, ◌≡◌, ◌∙◌, int_sums, refl, total}
use Rattle.ndarray_examples.proofs.algebra.sum_by_lanes.Goals as goal

pub sum-requires : goal.sum-requires
sum-requires g c = (c.axis_sums.ensures.arrays c.args.a.now c.in_ok-sums.sums c.args.axis.0 c.raw_dim-whole.ensures.whole (c.if-not-axis_ok.ensures.0 refl) c.in_ok-sums.ensures.sums.made).1 (c.if-not-sums_fit.ensures.selections.0 refl)

pub returns-clause-sum : goal.returns-clause-sum
returns-clause-sum g c =
    let sum : c.sum.result ≡ total int_sums c.args.a.now.cells = c.sum.ensures ∙ (c.axis_sums.ensures.arrays c.args.a.now c.in_ok-sums.sums c.args.axis.0 c.raw_dim-whole.ensures.whole (c.if-not-axis_ok.ensures.0 refl) c.in_ok-sums.ensures.sums.made).0 in
    search (rules, sum)
