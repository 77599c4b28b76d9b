use Rattle.std.proofs.Common.{length, map}
use Rattle.ndarray.specs.order.Rows.{joined}
use Rattle.ndarray.specs.reduce.SmallProducts.{ExtremesSoFar}
use Rattle.ndarray.proofs.reduce.small_products.extremes_of_array.Given as goal

abbrev pub invariant-loop-run : goal.invariant-loop-run
invariant-loop-run g l =
    let v = g.A.Number.value in
    ExtremesSoFar g.A.Number.fits (map v l.array.cells) (map v (joined l.runs)) (v l.extremes.least) (v l.extremes.greatest)

abbrev pub decreases-loop-run : goal.decreases-loop-run
decreases-loop-run g l = length l.runs
