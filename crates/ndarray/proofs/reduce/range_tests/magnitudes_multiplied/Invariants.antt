use Rattle.std.proofs.Common.{length, map}
use Rattle.ndarray.specs.reduce.NonzeroProducts.{MultipliedSoFar}
use Rattle.ndarray.specs.order.Rows.{joined}
use Rattle.ndarray.proofs.reduce.range_tests.magnitudes_multiplied.Given as goal

abbrev pub invariant-loop-run : goal.invariant-loop-run
invariant-loop-run g l =
    let v = g.A.Number.value in
    MultipliedSoFar g.A.Number.fits (map v l.array.cells) (map v (joined l.runs)) (v l.product)

abbrev pub decreases-loop-run : goal.decreases-loop-run
decreases-loop-run g l = length l.runs
