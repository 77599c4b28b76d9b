-- So far it is the least of the first lengths.
use Rattle.std.proofs.Common.{◌≡◌, take}
use Rattle.ndarray.specs.Diagonals.{shortest}
use Rattle.ndarray.proofs.base.diagonals.least_length.Given as goal

abbrev pub invariant-loop-k : goal.invariant-loop-k
invariant-loop-k l = l.least ≡ shortest (take l.k l.lengths)
