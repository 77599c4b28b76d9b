use Rattle.ndarray.proofs.algebra.AddedTotals.{lane_totals-multiplied, totals-multiplied}
use Rattle.ndarray.proofs.laws.sums_multiply.Goals as goal

pub returns : goal.returns
returns g c =
    let plus = g.A.Valued.addition in
    let value = g.A.Valued.meaning in
    let times = g.A.Valued.multiplication in
    let distributes = g.met.A.LinalgScalar.distributes in
    let absorbs = g.met.A.LinalgScalar.absorbs in
    record {
      totals = λ factor a r by. totals-multiplied plus value times distributes absorbs factor a r by;
      along = λ factor a r by. lane_totals-multiplied plus value times distributes absorbs factor a r by;
    }
