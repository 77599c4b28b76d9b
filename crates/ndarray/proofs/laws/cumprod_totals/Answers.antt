use Rattle.ndarray.proofs.algebra.RunningTotals.{cumulates-leave}
use Rattle.ndarray.proofs.laws.cumprod_totals.Goals as goal

pub returns : goal.returns
returns g c = cumulates-leave g.A.Valued.multiplication g.A.Valued.meaning g.A.Mul.mul_gives
