-- The rows so far.
use Rattle.std.proofs.Common.{◌≡◌, ◌≤◌, [], ◌∷◌, get_or, map}
use Rattle.std.specs.Vec.{vec_capacity}
use Rattle.ndarray.specs.Index.{row_order}
use Rattle.ndarray.specs.Products.{matrix_entries, matrix_of, product_of}
use Rattle.ndarray.proofs.linalg.matrix_products.push_rows.Given as goal

abbrev pub invariant-loop-i : goal.invariant-loop-i
invariant-loop-i g l = record {
  values : map g.A.Valued.meaning l.sums.items ≡ map (matrix_entries (product_of g.A.Valued (matrix_of g.A.Valued l.left) (matrix_of g.A.Valued l.right))) (row_order (l.i ∷ get_or l.right.lengths 1 0 ∷ []));
  capacity : vec_capacity l.fn.sums ≤ vec_capacity l.sums;
}
