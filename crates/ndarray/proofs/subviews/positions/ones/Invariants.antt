use Rattle.std.proofs.Common.{length, replicate}
use Rattle.ndarray.proofs.lists.Prefixes.{IsFilledTo}
use Rattle.ndarray.proofs.subviews.positions.ones.Given as goal

abbrev pub invariant-loop-k : goal.invariant-loop-k
invariant-loop-k g l = IsFilledTo (replicate (length (g.D.Lengths.numbers l.dim)) 1) l.k (g.D.Lengths.numbers l.ones)
