-- The sums with the columns so far.
use Rattle.std.proofs.Common.{◌≡◌, ◌++◌, map}
use Rattle.std.specs.Vec.{vec_capacity}
use Rattle.ndarray.specs.Matrices.{values_below}
use Rattle.ndarray.specs.Products.{matrix_of, product_of, row_of}
use Rattle.ndarray.proofs.linalg.row_sums.push_by_columns.Given as goal

abbrev pub invariant-loop-j : goal.invariant-loop-j
invariant-loop-j g l = record {
  values : map g.A.Valued.meaning l.sums.items ≡ map g.A.Valued.meaning l.fn.sums.items ++ values_below l.j ((product_of g.A.Valued (row_of g.A.Valued l.x) (matrix_of g.A.Valued l.right)).cell 0);
  capacity : vec_capacity l.sums ≡ vec_capacity l.fn.sums;
}
