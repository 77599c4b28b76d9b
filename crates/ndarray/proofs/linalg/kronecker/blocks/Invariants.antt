-- The products so far, with those of the rows to come, are the entries of the whole.
use Rattle.std.proofs.Common.{◌≡◌, ◌++◌, All, map}
use Rattle.std.specs.Prelude.{flat_map}
use Rattle.ndarray.specs.linalg.BlockRows.{CanMultiplyEach, block_rows}
use Rattle.ndarray.specs.Index.{row_order}
use Rattle.ndarray.specs.Matrices.{kronecker_product}
use Rattle.ndarray.specs.Products.{kronecker_lengths, matrix_entries, matrix_of}
use Rattle.ndarray.specs.Subviews.{axis_items}
use Rattle.ndarray.specs.declared.base.shape.Order.TheVariants.{RowMajor}
use Rattle.ndarray.proofs.linalg.kronecker.blocks.Given as goal

abbrev pub invariant-loop-row : goal.invariant-loop-row
invariant-loop-row g l = record {
  lengths : l.products.lengths ≡ kronecker_lengths l.a.lengths l.b.lengths;
  order : l.products.order ≡ RowMajor;
  values : map g.A.Valued.meaning l.products.cells ++ flat_map (λ row. block_rows g.A.Valued row (axis_items l.b 0)) l.row-iterator ≡ map (matrix_entries (kronecker_product g.A.Valued.multiplication (matrix_of g.A.Valued l.a) (matrix_of g.A.Valued l.b))) (row_order (kronecker_lengths l.a.lengths l.b.lengths));
  can : All (λ row. All (λ below. CanMultiplyEach g.A.Valued row.cells below.cells) (axis_items l.b 0)) l.row-iterator;
}
