use Rattle.std.proofs.Common.{◌≡◌, take}
use Rattle.ndarray.specs.Index.{size}
use Rattle.ndarray.proofs.base.dimension.Lengths.size.Given as goal

abbrev pub invariant-loop-axis : goal.invariant-loop-axis
invariant-loop-axis g l = l.size ≡ size (take l.axis (g.Self.Lengths.numbers l.self))
