-- The shapes so far are the same, so that the answer is that of those to come.
use Rattle.std.proofs.Common.{◌≡◌, ℕ, ◌<◌, drop, get_or}
use Rattle.std.specs.List.{list_all}
use Rattle.ndarray.specs.Grid.{Grid, IsGrid, same_index}
use Rattle.ndarray.specs.Joining.{shapes_of}
use Rattle.ndarray.proofs.stacking.shapes.are_same.Given as goal

abbrev pub invariant-loop-other : goal.invariant-loop-other
invariant-loop-other g l = record {
  same : list_all (same_index (g.D.Lengths.numbers l.first)) (shapes_of (drop l.other-index l.others)) ≡ list_all (same_index (g.D.Lengths.numbers l.first)) (shapes_of l.others);
  whole : (k : ℕ) (d : Grid g.row.A.Denot) → k < l.other-index → IsGrid (get_or l.others k d);
}
