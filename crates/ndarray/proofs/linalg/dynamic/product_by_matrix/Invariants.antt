-- The sums so far, with those of the rows to come, are the entries of the product.
use Rattle.std.proofs.Common.{◌≡◌, ◌≤◌, ◌++◌, All, get_or, map}
use Rattle.std.specs.Prelude.{flat_map}
use Rattle.std.specs.Vec.{vec_capacity}
use Rattle.ndarray.specs.Index.{row_order, size}
use Rattle.ndarray.specs.linalg.LaneSums.{CanSumLanes, lane_sum}
use Rattle.ndarray.specs.Products.{dot_entries, product_lengths}
use Rattle.ndarray.proofs.cells.LanePairs.{EachColumn, columns_of}
use Rattle.ndarray.proofs.cells.RowsByLanes.{IsRow}
use Rattle.ndarray.proofs.linalg.dynamic.product_by_matrix.Given as goal

abbrev pub invariant-loop-row : goal.invariant-loop-row
invariant-loop-row g l = record {
  values : map g.A.Valued.meaning l.sums.items ++ flat_map (λ x. map (lane_sum g.A.Valued x) (columns_of l.y).cells) l.row-iterator ≡ map (dot_entries g.A.Valued l.x l.y) (row_order (product_lengths l.x.lengths l.y.lengths));
  can : All (EachColumn (CanSumLanes g.A.Valued) l.y) l.row-iterator;
  rows : All (IsRow (get_or l.y.lengths 0 0)) l.row-iterator;
  capacity : size (product_lengths l.x.lengths l.y.lengths) ≤ vec_capacity l.sums;
}
