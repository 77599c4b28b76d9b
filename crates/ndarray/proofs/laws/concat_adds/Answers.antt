use Rattle.ndarray.proofs.algebra.JoinedTotals.{totals-join}
use Rattle.ndarray.proofs.laws.concat_adds.Goals as goal

pub returns : goal.returns
returns g c = totals-join g.A.Valued.addition g.A.Valued.meaning
