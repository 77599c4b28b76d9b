-- The sums so far, with those at the positions to come, are the whole.
use Rattle.std.proofs.Common.{◌≡◌, ◌++◌, ◌≤◌, All, length, map}
use Rattle.std.specs.Vec.{vec_capacity}
use Rattle.ndarray.specs.Convolution.{valid_counts}
use Rattle.ndarray.specs.Index.{InBox, row_order}
use Rattle.ndarray.specs.conv.WindowSums.{window_sums}
use Rattle.ndarray.proofs.conv.rows.push_sums.Given as goal

abbrev pub invariant-loop-tile : goal.invariant-loop-tile
invariant-loop-tile g l = record {
  values : map g.A.Valued.meaning l.sums.items ++ window_sums g.A.Valued l.a l.mirrored l.left ≡ window_sums g.A.Valued l.a l.mirrored (row_order (g.D.Lengths.numbers l.positions));
  within : All (InBox (valid_counts l.a.lengths l.mirrored.lengths)) l.left;
  capacity : vec_capacity l.fn.sums ≤ vec_capacity l.sums;
}

abbrev pub decreases-loop-tile : goal.decreases-loop-tile
decreases-loop-tile g l = length l.left
