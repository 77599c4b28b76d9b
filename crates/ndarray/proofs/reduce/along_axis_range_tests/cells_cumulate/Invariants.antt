-- The running products from that on are to come.
use Rattle.std.proofs.Common.{length}
use Rattle.ndarray.proofs.cells.LaneProducts.{SameToCome}
use Rattle.ndarray.proofs.reduce.along_axis_range_tests.cells_cumulate.Given as goal

abbrev pub invariant-loop-x : goal.invariant-loop-x
invariant-loop-x g l = SameToCome g.A.Number.value g.A.Number.fits l.fn.cells l.product l.cells

abbrev pub decreases-loop-x : goal.decreases-loop-x
decreases-loop-x g l = length l.cells
