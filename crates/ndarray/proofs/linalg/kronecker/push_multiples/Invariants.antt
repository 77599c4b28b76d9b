-- The products so far, with those to come, are the whole.
use Rattle.std.proofs.Common.{◌≡◌, ◌++◌, All, map}
use Rattle.ndarray.specs.linalg.BlockRows.{CanMultiply, multiples}
use Rattle.ndarray.proofs.linalg.kronecker.push_multiples.Given as goal

abbrev pub invariant-loop-cell : goal.invariant-loop-cell
invariant-loop-cell g l = record {
  lengths : l.products.lengths ≡ l.fn.products.lengths;
  order : l.products.order ≡ l.fn.products.order;
  values : map g.A.Valued.meaning l.products.cells ++ multiples g.A.Valued l.factor l.cell-iterator ≡ map g.A.Valued.meaning l.fn.products.cells ++ multiples g.A.Valued l.factor l.fn.cells;
  can : All (CanMultiply g.A.Valued l.factor) l.cell-iterator;
}
