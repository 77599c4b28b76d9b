-- So far the first axes have their last index.
use Rattle.std.proofs.Common.{◌≡◌}
use Rattle.ndarray.proofs.boxes.LastIndices.{lowered}
use Rattle.ndarray.proofs.base.array.ArrayBase.last.Given as goal

abbrev pub invariant-loop-axis : goal.invariant-loop-axis
invariant-loop-axis g l = g.D.Lengths.numbers l.index ≡ lowered l.axis l.self.lengths
