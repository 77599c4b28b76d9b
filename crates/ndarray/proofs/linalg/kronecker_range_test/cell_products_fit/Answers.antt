use Rattle.ndarray.proofs.cells.KroneckerRanges.{listed-products}
use Rattle.ndarray.proofs.linalg.kronecker_range_test.cell_products_fit.Goals as goal

pub returns : goal.returns
returns g c =
    let a = c.args.a.now in
    let b = c.args.b.now in
    let listed = listed-products g.A.Number.value g.A.Number.fits a b c.raw_dim-left.ensures.whole c.raw_dim-right.ensures.whole c.raw_dim-left.ensures.axes c.raw_dim-right.ensures.axes in
    (λ on. listed.0 (c.each_product_fits.ensures.0 on), λ all. c.each_product_fits.ensures.1 (listed.1 all))
