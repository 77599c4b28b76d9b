-- What is pushed and what is still to come is the first zeros and the vector's cells, and there is room for them and the last zeros.
use Rattle.std.proofs.Common.{◌≡◌, ◌+◌, ◌++◌, ◌≤◌, length, replicate}
use Rattle.std.specs.Vec.{vec_capacity}
use Rattle.ndarray.proofs.conv.between_zeros.Given as goal

abbrev pub invariant-loop-cell : goal.invariant-loop-cell
invariant-loop-cell g l = record {
  items : l.cells.items ++ l.cell-iterator ≡ replicate l.count g.A.Zero.zero ++ l.x.cells;
  room : length l.cells.items + (length l.cell-iterator + l.count) ≤ vec_capacity l.cells;
}
