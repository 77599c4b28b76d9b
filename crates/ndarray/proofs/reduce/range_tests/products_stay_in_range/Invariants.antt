use Rattle.std.proofs.Common.{length, map}
use Rattle.ndarray.specs.Integers.{int_products}
use Rattle.ndarray.specs.reduce.SignedSums.{ProductsApart}
use Rattle.ndarray.specs.Products.{products_of}
use Rattle.ndarray.specs.order.Rows.{HasRows, joined}
use Rattle.ndarray.proofs.boxes.RowProducts.{row_products}
use Rattle.ndarray.proofs.reduce.range_tests.products_stay_in_range.Given as goal

abbrev pub invariant-loop-row : goal.invariant-loop-row
invariant-loop-row g l =
    let v = g.A.Number.value in
    HasRows l.x l.rows
    × (HasRows l.y l.rows
    × ProductsApart g.A.Number.fits (products_of int_products v l.x.cells l.y.cells) (joined (map (row_products int_products v l.x l.y) l.rows)) (v l.sums.up) (v l.sums.down))

abbrev pub decreases-loop-row : goal.decreases-loop-row
decreases-loop-row g l = length l.rows
