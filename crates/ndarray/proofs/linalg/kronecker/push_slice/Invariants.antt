-- The products so far, with those to come, are the whole.
use Rattle.std.proofs.Common.{◌≡◌, ◌++◌, drop, map}
use Rattle.ndarray.specs.linalg.BlockRows.{multiples}
use Rattle.ndarray.proofs.linalg.kronecker.push_slice.Given as goal

abbrev pub invariant-loop-cell : goal.invariant-loop-cell
invariant-loop-cell g l = record {
  lengths : l.products.lengths ≡ l.initial.products.lengths;
  order : l.products.order ≡ l.initial.products.order;
  values : map g.A.Valued.meaning l.products.cells ++ multiples g.A.Valued l.factor (drop l.cell-index l.cells) ≡ map g.A.Valued.meaning l.initial.products.cells ++ multiples g.A.Valued l.factor l.cells;
}
