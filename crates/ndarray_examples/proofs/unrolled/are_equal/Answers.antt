use Rattle.ndarray.proofs.Common.{pos, int_eq, equal-slices}
use Rattle.num_traits.specs.Ints.{signed-eq}
use Rattle.ndarray_examples.proofs.unrolled.are_equal.Goals as goal

pub returns-then-xs-ys : goal.returns-then-xs-ys
returns-then-xs-ys c =
    let e = equal-slices int_eq signed-eq (pos 0) c.args.xs.now c.args.ys.now c.if-xs-ys.true in
    (λ h. e.0 (c.unrolled_eq.ensures.0 h), λ s. c.unrolled_eq.ensures.1 (e.1 s))
