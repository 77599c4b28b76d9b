use Rattle.std.proofs.Common.{length, min}
use Rattle.ndarray.specs.Scans.{step_gives}
use Rattle.ndarray.proofs.cells.RowScans.{RowsState}
use Rattle.ndarray.proofs.subviews.lane_tiles.scan_by_tiles.Given as goal

abbrev pub invariant-loop-row : goal.invariant-loop-row
invariant-loop-row g l = RowsState (step_gives g.F.Fn l.f) l.init l.fn.array l.axis.0 (min l.len 1) l.rows l.array

abbrev pub decreases-loop-row : goal.decreases-loop-row
decreases-loop-row g l = length l.rows
