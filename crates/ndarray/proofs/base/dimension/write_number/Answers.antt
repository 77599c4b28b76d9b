use Rattle.std.proofs.Common.{arith}
use Rattle.ndarray.proofs.base.dimension.write_number.Goals as goal

pub returns : goal.returns
returns c =
    let within = c.requires in
    let ended = c.loop-k-test.false in
    c.loop-k.invariant.0 (omega (arith, within, ended))
