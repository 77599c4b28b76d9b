use Rattle.std.proofs.Common.{length}
use Rattle.ndarray.proofs.sums.InnerSums.{RunningInner}
use Rattle.ndarray.proofs.linalg.inner.inner_of.Given as goal

abbrev pub invariant-loop-x : goal.invariant-loop-x
invariant-loop-x g l =
    let v = g.A.Valued in
    RunningInner v.addition v.multiplication v.InRange v.meaning l.fn.left l.fn.right l.xs l.ys (v.meaning l.sum)

abbrev pub decreases-loop-x : goal.decreases-loop-x
decreases-loop-x g l = length l.xs
