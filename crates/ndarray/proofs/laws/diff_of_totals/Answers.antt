use Rattle.ndarray.proofs.algebra.RunningTotals.{differences-give_back}
use Rattle.ndarray.proofs.laws.diff_of_totals.Goals as goal

pub returns : goal.returns
returns g c = differences-give_back g.A.Valued.addition g.A.Valued.meaning g.A.Sub.sub_gives
