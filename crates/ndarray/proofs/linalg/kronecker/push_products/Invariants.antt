-- The products so far, with those to come, are the whole.
use Rattle.std.proofs.Common.{◌≡◌, ◌++◌, map}
use Rattle.ndarray.specs.linalg.BlockRows.{CanMultiplyEach, multiples_by}
use Rattle.ndarray.proofs.linalg.kronecker.push_products.Given as goal

abbrev pub invariant-loop-factor : goal.invariant-loop-factor
invariant-loop-factor g l = record {
  lengths : l.products.lengths ≡ l.fn.products.lengths;
  order : l.products.order ≡ l.fn.products.order;
  values : map g.A.Valued.meaning l.products.cells ++ multiples_by g.A.Valued l.factor-iterator l.below.cells ≡ map g.A.Valued.meaning l.fn.products.cells ++ multiples_by g.A.Valued l.row.cells l.below.cells;
  can : CanMultiplyEach g.A.Valued l.factor-iterator l.below.cells;
}
