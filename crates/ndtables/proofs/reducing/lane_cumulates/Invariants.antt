use Rattle.ndtables.proofs.RunningProducts.{SameToCome}
use Rattle.ndtables.proofs.reducing.lane_cumulates.Given as goal

abbrev pub invariant-loop-cell : goal.invariant-loop-cell
invariant-loop-cell l = SameToCome l.lane.cells l.product l.cell-iterator
