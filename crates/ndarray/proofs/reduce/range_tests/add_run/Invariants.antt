use Rattle.std.proofs.Common.{◌++◌, length, map}
use Rattle.ndarray.specs.reduce.SignedSums.{AddedApart}
use Rattle.ndarray.proofs.reduce.range_tests.add_run.Given as goal

abbrev pub invariant-loop-x : goal.invariant-loop-x
invariant-loop-x g l =
    let v = g.A.Number.value in
    let fits = g.A.Number.fits in
    (whole rest : _) → AddedApart fits whole (map v l.fn.run ++ rest) (v l.fn.sums.up) (v l.fn.sums.down) → AddedApart fits whole (map v l.run ++ rest) (v l.sums.up) (v l.sums.down)

abbrev pub decreases-loop-x : goal.decreases-loop-x
decreases-loop-x g l = length l.run
