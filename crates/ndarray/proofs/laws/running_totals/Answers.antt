use Rattle.ndarray.proofs.algebra.RunningRanges.{running-stay}
use Rattle.ndarray.proofs.algebra.RunningTotals.{last-item}
use Rattle.ndarray.proofs.algebra.SummedAreas.{areas-are_totals, rectangles_add}
use Rattle.ndarray.proofs.laws.running_totals.Goals as goal

pub returns : goal.returns
returns g c = record {
  last_sums = last-item g.A.Valued.addition g.A.Valued.meaning;
  last_products = last-item g.A.Valued.multiplication g.A.Valued.meaning;
  areas = areas-are_totals g.A.Valued.addition g.A.Valued.meaning;
  rectangles = rectangles_add g.A.Valued.addition g.A.Valued.meaning;
  ranges = running-stay g.A.Valued.addition g.A.Valued.InRange g.A.Valued.meaning;
  product_ranges = running-stay g.A.Valued.multiplication g.A.Valued.InRange g.A.Valued.meaning;
}
