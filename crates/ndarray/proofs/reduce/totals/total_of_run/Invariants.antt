-- One sum is a running one, and the other is still to be added to it.
use Rattle.std.proofs.Common.{◌∷◌, length, map}
use Rattle.ndarray.proofs.sums.RunningSum.{RunningSum}
use Rattle.ndarray.proofs.reduce.totals.total_of_run.Given as goal

abbrev pub invariant-loop-x : goal.invariant-loop-x
invariant-loop-x g l =
    let v = g.T.TotalOperation in
    RunningSum v.operation v.InRange (map v.meaning l.fn.cells) (v.meaning l.others ∷ map v.meaning l.cells) (v.meaning l.total)

abbrev pub decreases-loop-x : goal.decreases-loop-x
decreases-loop-x g l = length l.cells
