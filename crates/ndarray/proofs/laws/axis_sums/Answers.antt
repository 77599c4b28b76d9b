use Rattle.ndarray.proofs.algebra.AxisSums.{axis_sums, lane_totals-summable}
use Rattle.ndarray.proofs.algebra.Sums.{axis_sum_arrays}
use Rattle.ndarray.proofs.laws.axis_sums.Goals as goal

pub returns-clause-totals : goal.returns-clause-totals
returns-clause-totals g c = axis_sums g.A.Valued.addition g.A.Valued.meaning

pub returns-clause-ranges : goal.returns-clause-ranges
returns-clause-ranges g c = lane_totals-summable g.A.Valued.addition g.A.Valued.InRange g.A.Valued.meaning

pub returns-clause-arrays : goal.returns-clause-arrays
returns-clause-arrays g c = axis_sum_arrays g.A.Valued.addition g.A.Valued.InRange g.A.Valued.meaning
