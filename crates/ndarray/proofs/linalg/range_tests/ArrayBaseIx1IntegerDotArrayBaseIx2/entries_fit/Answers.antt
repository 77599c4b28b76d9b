use Rattle.std.specs.Prelude.{IsTrue}
use Rattle.ndarray.specs.Products.{HasSumsInRange, matrix_of, row_of}
use Rattle.ndarray.specs.WholeValues.{whole_numbers}
use Rattle.ndarray.proofs.cells.WholeProducts.{row-in_range}
use Rattle.ndarray.proofs.linalg.range_tests.ArrayBaseIx1IntegerDotArrayBaseIx2.entries_fit.Goals as goal

pub returns-then-dot_ok-clause-defined : goal.returns-then-dot_ok-clause-defined
returns-then-dot_ok-clause-defined g c =
    let a = c.args.self.now in
    let b = c.args.rhs.now in
    let v = whole_numbers g.A.Number.value g.A.Number.fits in
    let sums : IsTrue c.columns_fit.result → HasSumsInRange v (row_of v a) (matrix_of v b) = rw (c.view.ensures.same, c.view-then-dot_ok.ensures.same) at c.columns_fit.ensures.sums in
    λ on. (c.dot_ok.ensures.0 c.if-dot_ok.true, row-in_range g.A.Valued g.A.Number.value g.A.Number.fits g.met.A.IntegerScalar.whole_values a b (sums on))
