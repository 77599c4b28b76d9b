use Rattle.std.proofs.Common.{◌++◌, ◌-◌, drop, length, map}
use Rattle.ndarray.specs.reduce.SmallProducts.{ExtremesSoFar}
use Rattle.ndarray.proofs.reduce.small_products.with_slice.Given as goal

abbrev pub invariant-cells : goal.invariant-cells
invariant-cells g l =
    let v = g.A.Number.value in
    let fits = g.A.Number.fits in
    (whole rest : _) → ExtremesSoFar fits whole (map v l.cells ++ rest) (v l.fn.extremes.least) (v l.fn.extremes.greatest) → ExtremesSoFar fits whole (map v (drop l.i l.cells) ++ rest) (v l.extremes.least) (v l.extremes.greatest)

abbrev pub decreases-cells : goal.decreases-cells
decreases-cells g l = length l.cells - l.i
