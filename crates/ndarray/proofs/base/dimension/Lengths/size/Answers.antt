use Rattle.std.proofs.Common.{arith, ap, ◌*◌, ◌+◌, ◌^◌, ◌<◌, take}
use Rattle.ndarray.specs.Index.{size}
use Rattle.ndarray.proofs.boxes.Sizes.{size-take_more, size-take_fits}
use Rattle.ndarray.proofs.base.dimension.Lengths.size.Goals as goal

pub overflow_mul-size : goal.overflow_mul-size
overflow_mul-size g c =
    let ns = g.Self.Lengths.numbers c.args.self.now in
    let m = size-take_more ns c.loop-axis.axis (omega arith) in
    let f = size-take_fits ns (c.loop-axis.axis + 1) c.requires in
    let a = ap (λ x. size (take c.loop-axis.axis ns) * x) c.axis-size.ensures in
    let b = ap (λ x. x * c.axis-size.result) c.loop-axis.invariant in
    let lt : c.loop-axis.size * c.axis-size.result < 2 ^ 64 = omega arith in
    omega arith
