-- The sums so far, with those of the rows to come, are the entries of the product.
use Rattle.std.proofs.Common.{◌≡◌, ◌++◌, All, map}
use Rattle.std.specs.Prelude.{flat_map}
use Rattle.ndarray.specs.Index.{row_order}
use Rattle.ndarray.specs.linalg.LaneSums.{CanSumLanes, lane_sum}
use Rattle.ndarray.specs.Products.{dot_entries, product_lengths}
use Rattle.ndarray.specs.declared.base.shape.Order.TheVariants.{RowMajor}
use Rattle.ndarray.proofs.cells.LanePairs.{EachColumn, columns_of}
use Rattle.ndarray.proofs.linalg.dynamic.product.Given as goal

abbrev pub invariant-loop-row : goal.invariant-loop-row
invariant-loop-row g l = record {
  lengths : l.sums.lengths ≡ product_lengths l.x.lengths l.y.lengths;
  order : l.sums.order ≡ RowMajor;
  values : map g.A.Valued.meaning l.sums.cells ++ flat_map (λ x. map (lane_sum g.A.Valued x) (columns_of l.y).cells) l.row-iterator ≡ map (dot_entries g.A.Valued l.x l.y) (row_order (product_lengths l.x.lengths l.y.lengths));
  can : All (EachColumn (CanSumLanes g.A.Valued) l.y) l.row-iterator;
}
