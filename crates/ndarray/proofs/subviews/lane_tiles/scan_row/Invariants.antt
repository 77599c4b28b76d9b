use Rattle.std.proofs.Common.{◌≤◌, ◌-◌}
use Rattle.ndarray.specs.Scans.{step_gives}
use Rattle.ndarray.specs.base.LaneScans.{ScansEach, lanes_at}
use Rattle.ndarray.specs.base.Ranks.{row_from}
use Rattle.ndarray.proofs.subviews.lane_tiles.scan_row.Given as goal

abbrev pub invariant-tiles : goal.invariant-tiles
invariant-tiles g l = record {
  scanned : ScansEach (step_gives g.F.Fn l.f) l.axis l.init (lanes_at l.axis (row_from (g.D.Lengths.numbers l.row.first) l.row.axis l.done)) l.fn.array l.array;
  within : l.done ≤ l.row.count;
}

abbrev pub decreases-tiles : goal.decreases-tiles
decreases-tiles g l = l.row.count - l.done
