-- So far it is the sum of the first strides.
use Rattle.std.proofs.Common.{◌≡◌, ◌%◌, ◌^◌, sum, take}
use Rattle.ndarray.proofs.base.diagonals.wrapping_sum.Given as goal

abbrev pub invariant-loop-stride : goal.invariant-loop-stride
invariant-loop-stride l = l.sum ≡ sum (take l.stride-index l.strides) % 2 ^ 64
