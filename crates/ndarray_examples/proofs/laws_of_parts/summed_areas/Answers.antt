use Rattle.ndarray.proofs.Common.{◌∙◌, ap, subst, int_sums, totals-made}
use Rattle.ndarray.specs.ScanLaws.{HasRunningTotals}
use Rattle.ndarray_examples.proofs.laws_of_parts.summed_areas.Goals as goal

pub returns-clause-lengths : goal.returns-clause-lengths
returns-clause-lengths g c =
    let down = totals-made int_sums 0 _ _ (c.running_sums.ensures.sums c.if-not-running_sums.false) in
    let across = totals-made int_sums 1 _ _ (c.running_sums-2.ensures.sums c.if-not-running_sums-2.false) in
    (across.whole, across.lengths ∙ (down.lengths ∙ ap (λ w. w.lengths) (c.in_ok-sums.ensures.same (λ x y e. e))))

pub returns-clause-areas : goal.returns-clause-areas
returns-clause-areas g c =
    let down = totals-made int_sums 0 _ _ (c.running_sums.ensures.sums c.if-not-running_sums.false) in
    let across = totals-made int_sums 1 _ _ (c.running_sums-2.ensures.sums c.if-not-running_sums-2.false) in
    c.running_totals.ensures.areas c.args.a.now c.running_sums.new.array c.running_sums-2.new.array c.raw_dim-axes.ensures.whole c.raw_dim-axes.ensures.axes
    (subst (λ w. HasRunningTotals int_sums (λ x. x) 0 w c.running_sums.new.array) (c.in_ok-sums.ensures.same (λ x y e. e)) down) across
