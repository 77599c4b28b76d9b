use Rattle.std.proofs.Common.{◌<◌, ap, length, arith}
use Rattle.ndarray.proofs.boxes.Sizes.{length-fits}
use Rattle.ndarray.proofs.base.array.ArrayBase.len_of.Goals as goal

pub returns-clause-fits : goal.returns-clause-fits
returns-clause-fits g c =
    let lt : c.args.axis.0 < length (g.D.Lengths.numbers c.self.inside.layout.dim) = omega (arith, ap (λ v. length v.lengths) c.self.view_is) in
    rw c.slice.ensures.value (length-fits _ c.args.axis.0 lt c.self.invariant.limit)
