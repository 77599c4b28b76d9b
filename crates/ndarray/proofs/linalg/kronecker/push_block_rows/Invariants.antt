-- The products so far, with those of the rows to come, are the whole.
use Rattle.std.proofs.Common.{◌≡◌, ◌++◌, All, map}
use Rattle.ndarray.specs.linalg.BlockRows.{CanMultiplyEach, block_rows}
use Rattle.ndarray.specs.Subviews.{axis_items}
use Rattle.ndarray.proofs.linalg.kronecker.push_block_rows.Given as goal

abbrev pub invariant-loop-below : goal.invariant-loop-below
invariant-loop-below g l = record {
  lengths : l.products.lengths ≡ l.fn.products.lengths;
  order : l.products.order ≡ l.fn.products.order;
  values : map g.A.Valued.meaning l.products.cells ++ block_rows g.A.Valued l.row l.below-iterator ≡ map g.A.Valued.meaning l.fn.products.cells ++ block_rows g.A.Valued l.row (axis_items l.b 0);
  can : All (λ below. CanMultiplyEach g.A.Valued l.row.cells below.cells) l.below-iterator;
}
