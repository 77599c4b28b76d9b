-- The list has the first axes.
use Rattle.std.proofs.Common.{ℕ, ◌<◌, Contains}
use Rattle.ndarray.proofs.base.permuted_axes.names_each_axis.Given as goal

abbrev pub invariant-loop-axis : goal.invariant-loop-axis
invariant-loop-axis l = (k : ℕ) → k < l.axis-counter → Contains l.axes k
