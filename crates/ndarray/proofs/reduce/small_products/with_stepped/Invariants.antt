use Rattle.std.proofs.Common.{◌++◌, length, map}
use Rattle.ndarray.specs.reduce.SmallProducts.{ExtremesSoFar}
use Rattle.ndarray.proofs.reduce.small_products.with_stepped.Given as goal

abbrev pub invariant-loop-x : goal.invariant-loop-x
invariant-loop-x g l =
    let v = g.A.Number.value in
    let fits = g.A.Number.fits in
    (whole rest : _) → ExtremesSoFar fits whole (map v l.fn.run ++ rest) (v l.fn.extremes.least) (v l.fn.extremes.greatest) → ExtremesSoFar fits whole (map v l.run ++ rest) (v l.extremes.least) (v l.extremes.greatest)

abbrev pub decreases-loop-x : goal.decreases-loop-x
decreases-loop-x g l = length l.run
