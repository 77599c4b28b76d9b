use Rattle.ndarray.proofs.algebra.AddedTotals.{lane_totals-add, totals-add}
use Rattle.ndarray.proofs.laws.sums_add.Goals as goal

pub returns : goal.returns
returns g c = record {
  totals = totals-add g.A.Valued.addition g.A.Valued.meaning;
  along = lane_totals-add g.A.Valued.addition g.A.Valued.meaning;
}
