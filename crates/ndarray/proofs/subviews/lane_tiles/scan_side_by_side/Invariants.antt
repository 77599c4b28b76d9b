use Rattle.std.proofs.Common.{◌≡◌, length, remove}
use Rattle.ndarray.specs.Scans.{step_gives}
use Rattle.ndarray.specs.base.Ranks.{row_from}
use Rattle.ndarray.proofs.cells.LaneTiles.{TileState}
use Rattle.ndarray.proofs.subviews.lane_tiles.scan_side_by_side.Given as goal

abbrev pub invariant-loop-k : goal.invariant-loop-k
invariant-loop-k g l = record {
  tile : TileState (step_gives g.F.Fn l.f) l.fn.init l.fn.array l.axis (row_from (g.D.Lengths.numbers l.row.first) l.row.axis l.row.count) l.values l.array l.k;
  own : remove (g.D.Lengths.numbers l.index) l.axis ≡ remove (g.D.Lengths.numbers l.row.first) l.axis;
  long : length (g.D.Lengths.numbers l.index) ≡ length l.fn.array.lengths;
}
