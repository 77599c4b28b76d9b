-- A length of a shape within the limit fits a signed word.
use Rattle.std.proofs.Common.{◌<◌, arith, length, ap}
use Rattle.ndarray.proofs.boxes.Sizes.{length-fits}
use Rattle.ndarray.proofs.base.array.ArrayBase.slice_ok.Goals as goal

pub is_within-requires : goal.is_within-requires
is_within-requires g c =
    let ns = g.D.Lengths.numbers c.self.inside.layout.dim in
    let lt : c.args.axis.0 < length ns = omega (arith, ap (λ v. length v.lengths) c.self.view_is) in
    let f = length-fits ns c.args.axis.0 lt c.self.invariant.limit in
    omega arith
