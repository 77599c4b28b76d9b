-- The rows so far fit.
use Rattle.std.proofs.Common.{ℕ, ◌<◌}
use Rattle.ndarray.specs.Products.{column_of, matrix_of}
use Rattle.ndarray.specs.WholeValues.{whole_numbers}
use Rattle.ndarray.proofs.cells.EntryTests.{EntryFits}
use Rattle.ndarray.proofs.linalg.range_tests.rows_fit.Given as goal

abbrev pub invariant-loop-i : goal.invariant-loop-i
invariant-loop-i g l =
    let e = whole_numbers g.A.Number.value g.A.Number.fits in
    (k : ℕ) → k < l.i → EntryFits g.A.Number.fits (matrix_of e l.a) (column_of e l.x) k 0
