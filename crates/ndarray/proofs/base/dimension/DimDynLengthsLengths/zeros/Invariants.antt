use Rattle.std.proofs.Common.{◌≡◌, replicate}
use Rattle.ndarray.proofs.base.dimension.DimDynLengthsLengths.zeros.Given as goal

abbrev pub invariant-loop-i : goal.invariant-loop-i
invariant-loop-i l = l.held.items ≡ replicate l._i 0
