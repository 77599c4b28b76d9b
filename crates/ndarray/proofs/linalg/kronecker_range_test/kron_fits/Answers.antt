use Rattle.std.specs.Prelude.{IsTrue}
use Rattle.ndarray.specs.Products.{HasProductsInRange, matrix_of}
use Rattle.ndarray.specs.WholeValues.{whole_numbers}
use Rattle.ndarray.proofs.cells.WholeProducts.{kronecker-in_range}
use Rattle.ndarray.proofs.linalg.kronecker_range_test.kron_fits.Goals as goal

pub returns-then-kron_ok-clause-defined : goal.returns-then-kron_ok-clause-defined
returns-then-kron_ok-clause-defined g c =
    let a = c.args.a.now in
    let b = c.args.b.now in
    let v = whole_numbers g.A.Number.value g.A.Number.fits in
    let products : IsTrue c.cell_products_fit.result → HasProductsInRange v (matrix_of v a) (matrix_of v b) = rw (c.view.ensures.same, c.view-then-kron_ok.ensures.same) at c.cell_products_fit.ensures.0 in
    λ on. kronecker-in_range g.A.Valued g.A.Number.value g.A.Number.fits g.met.A.IntegerScalar.whole_values a b (products on)
