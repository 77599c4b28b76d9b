-- So many rows were seen, and each has as many columns.
use Rattle.ndarray.proofs.Common.{◌≡◌, length, map, All}
use Rattle.uses.specs.Rows.{columns_of}
use Rattle.uses.proofs.rows.rows.Given as goal

abbrev pub invariant-loop-row : goal.invariant-loop-row
invariant-loop-row l = record {
  count : l.rows ≡ length l.yielded;
  equal : All (λ row. columns_of l.column row ≡ l.columns) (map (λ x. x.now) l.yielded);
}
