use Rattle.std.specs.Prelude.{IsTrue}
use Rattle.ndarray.specs.Products.{HasLaneSumsInRange}
use Rattle.ndarray.specs.WholeValues.{whole_numbers}
use Rattle.ndarray.specs.base.WholeValues.{whole-inner}
use Rattle.ndarray.proofs.linalg.dynamic_range_tests.ArrayBaseIxDynIntegerDot.entries_fit.Goals as goal

pub returns-then-dot_ok-clause-defined : goal.returns-then-dot_ok-clause-defined
returns-then-dot_ok-clause-defined g c =
    let sums : IsTrue c.lanes_fit.result → HasLaneSumsInRange (whole_numbers g.A.Number.value g.A.Number.fits) c.args.self.now c.args.rhs.now = rw (c.view.ensures.same, c.view-then-dot_ok.ensures.same) at c.lanes_fit.ensures.sums in
    λ on. (c.dot_ok.ensures.0 c.if-dot_ok.true, λ is inside. whole-inner g.met.A.IntegerScalar.whole_values _ _ (sums on is inside))
