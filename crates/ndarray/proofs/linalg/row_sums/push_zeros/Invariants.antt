-- As many zeros as the loop has gone round.
use Rattle.std.proofs.Common.{◌≡◌, ◌++◌, replicate}
use Rattle.std.specs.Vec.{vec_capacity}
use Rattle.ndarray.proofs.linalg.row_sums.push_zeros.Given as goal

abbrev pub invariant-loop : goal.invariant-loop
invariant-loop g l = record {
  items : l.sums.items ≡ l.initial.sums.items ++ replicate l.counter g.A.Zero.zero;
  capacity : vec_capacity l.sums ≡ vec_capacity l.initial.sums;
}
