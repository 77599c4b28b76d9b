use Rattle.std.proofs.Common.{◌≡◌, ◌++◌, [], arith, drop, inl, inr, subst}
use Rattle.std.proofs.lemmas.List.{drop_all}
use Rattle.ndarray.specs.Integers.{int_products}
use Rattle.ndarray.specs.reduce.SignedSums.{ProductsApart}
use Rattle.ndarray.specs.Products.{products_of}
use Rattle.ndarray.proofs.sums.InnerSums.{products-ended, products-from}
use Rattle.ndarray.proofs.reduce.range_tests.add_slice_products.Goals as goal
use Rattle.ndarray.proofs.reduce.range_tests.add_slice_products.Goals.{then-cells-test+else-i-ys, else-cells-test}

pub cells-preserved : goal.cells-preserved
cells-preserved g c =
    let v = g.A.Number.value in
    let next = products-from int_products v c.args.xs.now c.args.ys.now c.cells.i c.index-xs-i.result c.index-ys-i.result c.cells-test.true c.if-i-ys.true c.index-xs-i.is c.index-ys-i.is in
    λ whole rest h. c.in-Some.ensures whole _ (subst (λ l. ProductsApart g.A.Number.fits whole (l ++ rest) (v c.cells.sums.up) (v c.cells.sums.down)) next (c.cells.invariant whole rest h))

pub returns-in_default : goal.returns-in_default
returns-in_default g c =
    let v = g.A.Number.value in
    let next = products-from int_products v c.args.xs.now c.args.ys.now c.cells.i c.index-xs-i.result c.index-ys-i.result c.cells-test.true c.if-i-ys.true c.index-xs-i.is c.index-ys-i.is in
    λ whole rest h. c.in_default.ensures whole _ (subst (λ l. ProductsApart g.A.Number.fits whole (l ++ rest) (v c.cells.sums.up) (v c.cells.sums.down)) next (c.cells.invariant whole rest h))

pub returns : goal.returns
returns g c =
    let v = g.A.Number.value in
    let none : products_of int_products v (drop c.cells.i c.args.xs.now) (drop c.cells.i c.args.ys.now) ≡ [] = elim c.cells-test.branch [
      | then-cells-test+else-i-ys w ↦ products-ended int_products v _ _ (inr (drop_all c.cells.i c.args.ys.now (omega (arith, w.if-i-ys.false))))
      | else-cells-test w ↦ products-ended int_products v _ _ (inl (drop_all c.cells.i c.args.xs.now (omega (arith, w.cells-test.false))))
    ] in
    λ whole rest h. subst (λ l. ProductsApart g.A.Number.fits whole (l ++ rest) (v c.cells.sums.up) (v c.cells.sums.down)) none (c.cells.invariant whole rest h)
