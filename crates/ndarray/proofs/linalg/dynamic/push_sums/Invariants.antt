-- The sums so far, with those to come, are the whole.
use Rattle.std.proofs.Common.{◌≡◌, ◌++◌, All, map}
use Rattle.ndarray.specs.linalg.LaneSums.{CanSumLanes, lane_sum}
use Rattle.ndarray.proofs.linalg.dynamic.push_sums.Given as goal

abbrev pub invariant-loop-column : goal.invariant-loop-column
invariant-loop-column g l = record {
  lengths : l.sums.lengths ≡ l.fn.sums.lengths;
  order : l.sums.order ≡ l.fn.sums.order;
  values : map g.A.Valued.meaning l.sums.cells ++ map (lane_sum g.A.Valued l.row) l.column-iterator ≡ map g.A.Valued.meaning l.fn.sums.cells ++ map (lane_sum g.A.Valued l.row) l.fn.columns.cells;
  can : All (CanSumLanes g.A.Valued l.row) l.column-iterator;
}
