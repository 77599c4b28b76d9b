-- The lanes of which the first cells came have passed.
use Rattle.ndarray.specs.AlongAxisRanges.{HasRunningProductsInRange}
use Rattle.ndarray.proofs.cells.LaneProducts.{PassedLanes}
use Rattle.ndarray.proofs.reduce.along_axis_range_tests.lanes_cumulate.Given as goal

abbrev pub invariant-loop-first : goal.invariant-loop-first
invariant-loop-first g l = PassedLanes (HasRunningProductsInRange g.A.Number.value g.A.Number.fits) l.array l.axis.0 l.first-iterator
