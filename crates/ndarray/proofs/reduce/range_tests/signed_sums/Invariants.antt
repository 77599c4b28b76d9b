use Rattle.std.proofs.Common.{length, map}
use Rattle.ndarray.specs.order.Rows.{joined}
use Rattle.ndarray.specs.reduce.SignedSums.{AddedApart}
use Rattle.ndarray.proofs.reduce.range_tests.signed_sums.Given as goal

abbrev pub invariant-loop-run : goal.invariant-loop-run
invariant-loop-run g l =
    let v = g.A.Number.value in
    AddedApart g.A.Number.fits (map v l.array.cells) (map v (joined l.runs)) (v l.sums.up) (v l.sums.down)

abbrev pub decreases-loop-run : goal.decreases-loop-run
decreases-loop-run g l = length l.runs
