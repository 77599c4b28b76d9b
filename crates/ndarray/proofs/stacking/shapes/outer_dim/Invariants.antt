use Rattle.std.proofs.Common.{◌≡◌}
use Rattle.ndarray.proofs.joining.OuterAxes.{ones_between}
use Rattle.ndarray.proofs.stacking.shapes.outer_dim.Given as goal

abbrev pub invariant-loop-k : goal.invariant-loop-k
invariant-loop-k g l = g.D.Lengths.numbers l.outer ≡ ones_between l.axis l.k (g.D.Lengths.numbers l.fn.dim)
