use Rattle.std.proofs.lemmas.Result.{IfOk-weaker}
use Rattle.std.specs.Prelude.{◌↔◌, IfOk, IsTrue}
use Rattle.ndarray.specs.ChainRanges.{HasMixedProductInRange, MixedProductHasCells}
use Rattle.ndarray.specs.Products.{HasProductsInRange, HasSumsInRange, matrix_of, product_of}
use Rattle.ndarray.proofs.linalg.chain_range_tests.kron_dot_fits.Goals as goal

pub returns-clause-exact : goal.returns-clause-exact
returns-clause-exact g c =
    let shapes = c.kron_dot_ok.ensures.0 c.if-not-kron_dot_ok.false in
    let tested : IfOk c.mixed_products_fit.result (λ fits. IsTrue fits ↔ HasMixedProductInRange g.A.Number.value g.A.Number.fits c.args.a.now c.args.b.now c.args.c.now c.args.d.now)
    = rw (c.view.ensures.same, c.view-2.ensures.same, c.view-3.ensures.same, c.view-4.ensures.same) at c.mixed_products_fit.ensures.exact in
    IfOk-weaker c.mixed_products_fit.result _ _ (λ fits same. (λ on. (shapes, same.0 on), λ all. same.1 all.1)) tested

pub returns-clause-left_sums : goal.returns-clause-left_sums
returns-clause-left_sums g c =
    let e = g.A.Valued in
    let sums : IfOk c.mixed_products_fit.result (λ fits. IsTrue fits → MixedProductHasCells c.args.a.now c.args.b.now c.args.c.now c.args.d.now → HasSumsInRange e (matrix_of e c.args.a.now) (matrix_of e c.args.c.now))
    = rw (c.view.ensures.same, c.view-2.ensures.same, c.view-3.ensures.same, c.view-4.ensures.same) at c.mixed_products_fit.ensures.left_sums in
    sums

pub returns-clause-right_sums : goal.returns-clause-right_sums
returns-clause-right_sums g c =
    let e = g.A.Valued in
    let sums : IfOk c.mixed_products_fit.result (λ fits. IsTrue fits → MixedProductHasCells c.args.a.now c.args.b.now c.args.c.now c.args.d.now → HasSumsInRange e (matrix_of e c.args.b.now) (matrix_of e c.args.d.now))
    = rw (c.view.ensures.same, c.view-2.ensures.same, c.view-3.ensures.same, c.view-4.ensures.same) at c.mixed_products_fit.ensures.right_sums in
    sums

pub returns-clause-products : goal.returns-clause-products
returns-clause-products g c =
    let e = g.A.Valued in
    let products : IfOk c.mixed_products_fit.result (λ fits. IsTrue fits → HasProductsInRange e (product_of e (matrix_of e c.args.a.now) (matrix_of e c.args.c.now)) (product_of e (matrix_of e c.args.b.now) (matrix_of e c.args.d.now)))
    = rw (c.view.ensures.same, c.view-2.ensures.same, c.view-3.ensures.same, c.view-4.ensures.same) at c.mixed_products_fit.ensures.products in
    products
