-- The shapes so far are the same, so that the answer is that of those to come.
use Rattle.std.proofs.Common.{◌≡◌, ℕ, ◌<◌, drop, get_or}
use Rattle.std.specs.List.{list_all}
use Rattle.ndarray.specs.Grid.{Grid, IsGrid}
use Rattle.ndarray.specs.Joining.{is_same_but_along, shapes_of}
use Rattle.ndarray.proofs.stacking.shapes.are_same_but_along.Given as goal

abbrev pub invariant-loop-other : goal.invariant-loop-other
invariant-loop-other g l = record {
  same : list_all (is_same_but_along l.axis (g.D.Lengths.numbers l.first)) (shapes_of (drop l.other-index l.others)) ≡ list_all (is_same_but_along l.axis (g.D.Lengths.numbers l.first)) (shapes_of l.others);
  whole : (k : ℕ) (d : Grid g.row.A.Denot) → k < l.other-index → IsGrid (get_or l.others k d);
}
