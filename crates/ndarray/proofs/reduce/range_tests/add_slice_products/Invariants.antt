use Rattle.std.proofs.Common.{◌++◌, ◌-◌, drop, length}
use Rattle.ndarray.specs.Integers.{int_products}
use Rattle.ndarray.specs.reduce.SignedSums.{ProductsApart}
use Rattle.ndarray.specs.Products.{products_of}
use Rattle.ndarray.proofs.reduce.range_tests.add_slice_products.Given as goal

abbrev pub invariant-cells : goal.invariant-cells
invariant-cells g l =
    let v = g.A.Number.value in
    let fits = g.A.Number.fits in
    (whole rest : _) → ProductsApart fits whole (products_of int_products v l.xs l.ys ++ rest) (v l.fn.sums.up) (v l.fn.sums.down)
    → ProductsApart fits whole (products_of int_products v (drop l.i l.xs) (drop l.i l.ys) ++ rest) (v l.sums.up) (v l.sums.down)

abbrev pub decreases-cells : goal.decreases-cells
decreases-cells g l = length l.xs - l.i
