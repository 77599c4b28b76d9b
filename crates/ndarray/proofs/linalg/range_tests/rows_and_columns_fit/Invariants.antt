-- The rows so far fit with each column.
use Rattle.std.proofs.Common.{ℕ, ◌<◌, get_or}
use Rattle.ndarray.specs.Products.{matrix_of}
use Rattle.ndarray.specs.WholeValues.{whole_numbers}
use Rattle.ndarray.proofs.cells.EntryTests.{EntryFits}
use Rattle.ndarray.proofs.linalg.range_tests.rows_and_columns_fit.Given as goal

abbrev pub invariant-loop-i : goal.invariant-loop-i
invariant-loop-i g l =
    let e = whole_numbers g.A.Number.value g.A.Number.fits in
    (k : ℕ) → k < l.i → (j : ℕ) → j < get_or l.b.lengths 1 0 → EntryFits g.A.Number.fits (matrix_of e l.a) (matrix_of e l.b) k j
