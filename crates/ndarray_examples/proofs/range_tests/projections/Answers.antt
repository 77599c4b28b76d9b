use Rattle.ndarray.proofs.Common.{◌≡◌, ◌∙◌, ◌-◌, ap, get_or, refl, sym, array_by-follows, column-cells, i64_values}
use Rattle.ndarray_examples.specs.RangeTests.{projected_at}
use Rattle.ndarray_examples.proofs.range_tests.projections.Goals as goal

pub returns-clause-sums : goal.returns-clause-sums
returns-clause-sums g c =
    let points = c.args.points.now in
    let direction = c.args.direction.now in
    let two = c.raw_dim.ensures.axes in
    let one = c.raw_dim-2.ensures.axes in
    let shapes = c.if-not-entries_fit.ensures.exact.0 refl in
    let inner : get_or points.lengths 1 0 ≡ get_or direction.lengths 0 0 = ap (λ n. get_or points.lengths (n - 1) 0) (sym two) ∙ (shapes.0.inner ∙ ap (λ n. get_or direction.lengths (n - 2) 0) one) in
    let made = c.in_ok-sums.ensures.made in
    array_by-follows c.in_ok-sums.sums _ (projected_at points direction) made.whole made.lengths
    (column-cells i64_values points direction two one c.raw_dim-2.ensures.whole inner c.raw_dim.ensures.whole c.in_ok-sums.sums made)
