use Rattle.std.proofs.Common.{length}
use Rattle.ndarray.proofs.sums.RunningRuns.{RunningRuns}
use Rattle.ndarray.proofs.reduce.totals.total.Given as goal

abbrev pub invariant-loop-run : goal.invariant-loop-run
invariant-loop-run g l =
    let v = g.T.TotalOperation in
    RunningRuns v.operation v.InRange v.meaning l.array.cells l.runs (v.meaning l.total)

abbrev pub decreases-loop-run : goal.decreases-loop-run
decreases-loop-run g l = length l.runs
