-- The cells so far were added, and the others are left.
use Rattle.std.proofs.Common.{◌≡◌, drop, length}
use Rattle.ndarray.proofs.sums.RowSums.{AddedTo}
use Rattle.ndarray.proofs.linalg.row_sums.add_scaled_steps.Given as goal

abbrev pub invariant-loop-cell : goal.invariant-loop-cell
invariant-loop-cell g l = record {
  left : l.cells ≡ drop l.j l.fn.row;
  added : AddedTo g.A.Valued l.x l.fn.row l.fn.sums l.j l.sums;
}

abbrev pub decreases-loop-cell : goal.decreases-loop-cell
decreases-loop-cell g l = length l.cells
