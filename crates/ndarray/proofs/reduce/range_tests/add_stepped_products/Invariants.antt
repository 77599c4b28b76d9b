use Rattle.std.proofs.Common.{◌++◌, length}
use Rattle.ndarray.specs.Integers.{int_products}
use Rattle.ndarray.specs.reduce.SignedSums.{ProductsApart}
use Rattle.ndarray.specs.Products.{products_of}
use Rattle.ndarray.proofs.reduce.range_tests.add_stepped_products.Given as goal

abbrev pub invariant-loop-x : goal.invariant-loop-x
invariant-loop-x g l =
    let v = g.A.Number.value in
    let fits = g.A.Number.fits in
    (whole rest : _) → ProductsApart fits whole (products_of int_products v l.fn.pairs.first l.fn.pairs.second ++ rest) (v l.fn.sums.up) (v l.fn.sums.down)
    → ProductsApart fits whole (products_of int_products v l.pairs.first l.pairs.second ++ rest) (v l.sums.up) (v l.sums.down)

abbrev pub decreases-loop-x : goal.decreases-loop-x
decreases-loop-x g l = length l.pairs.first
