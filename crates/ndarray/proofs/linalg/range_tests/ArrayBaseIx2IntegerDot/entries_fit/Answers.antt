use Rattle.std.specs.Prelude.{IsTrue}
use Rattle.ndarray.specs.Products.{HasSumsInRange, matrix_of}
use Rattle.ndarray.specs.WholeValues.{whole_numbers}
use Rattle.ndarray.proofs.cells.WholeProducts.{matrices-in_range}
use Rattle.ndarray.proofs.linalg.range_tests.ArrayBaseIx2IntegerDot.entries_fit.Goals as goal

pub returns-then-dot_ok-clause-defined : goal.returns-then-dot_ok-clause-defined
returns-then-dot_ok-clause-defined g c =
    let a = c.args.self.now in
    let b = c.args.rhs.now in
    let v = whole_numbers g.A.Number.value g.A.Number.fits in
    let sums : IsTrue c.rows_and_columns_fit.result → HasSumsInRange v (matrix_of v a) (matrix_of v b) = rw (c.view.ensures.same, c.view-then-dot_ok.ensures.same) at c.rows_and_columns_fit.ensures.sums in
    λ on. (c.dot_ok.ensures.0 c.if-dot_ok.true, matrices-in_range g.A.Valued g.A.Number.value g.A.Number.fits g.met.A.IntegerScalar.whole_values a b (sums on))
