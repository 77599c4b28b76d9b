use Rattle.std.proofs.Common.{◌≡◌, take}
use Rattle.ndarray.specs.base.Nested.{sum_over_axes, below_first}
use Rattle.ndarray.proofs.base.layout.Layout.below_start.Given as goal

abbrev pub invariant-loop-k : goal.invariant-loop-k
invariant-loop-k g l = l.below_start ≡ sum_over_axes below_first (take l.k (g.D.Lengths.numbers l.self.dim)) (take l.k (g.D.Lengths.numbers l.self.strides))
