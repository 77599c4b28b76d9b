use Rattle.std.proofs.Common.{◌≡◌, ℕ, ◌<◌, get_or}
use Rattle.ndarray.proofs.base.broadcast.are_equal.Given as goal

abbrev pub invariant-loop-k : goal.invariant-loop-k
invariant-loop-k g l = (j : ℕ) → j < l.k → get_or (g.D.Lengths.numbers l.left) j 0 ≡ get_or (g.E.Lengths.numbers l.right) j 0
