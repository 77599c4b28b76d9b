use Rattle.std.proofs.Common.{◌≡◌, ◌++◌, [], arith, drop, map, subst}
use Rattle.std.proofs.lemmas.List.{drop_all}
use Rattle.ndarray.specs.reduce.SmallProducts.{ExtremesSoFar}
use Rattle.ndarray.proofs.sums.InnerSums.{drop-next}
use Rattle.ndarray.proofs.reduce.small_products.with_slice.Goals as goal

pub cells-preserved : goal.cells-preserved
cells-preserved g c =
    let v = g.A.Number.value in
    let next = drop-next c.args.cells.now c.cells.i c.index-cells-i.result c.cells-test.true c.index-cells-i.is in
    λ whole rest h.
    c.with_number-extremes.ensures whole _
    (subst (λ l. ExtremesSoFar g.A.Number.fits whole (map v l ++ rest) (v c.cells.extremes.least) (v c.cells.extremes.greatest)) next (c.cells.invariant whole rest h))

pub returns : goal.returns
returns g c =
    let v = g.A.Number.value in
    let none : drop c.cells.i c.args.cells.now ≡ [] = drop_all c.cells.i c.args.cells.now (omega (arith, c.cells-test.false)) in
    λ whole rest h. subst (λ l. ExtremesSoFar g.A.Number.fits whole (map v l ++ rest) (v c.cells.extremes.least) (v c.cells.extremes.greatest)) none (c.cells.invariant whole rest h)
