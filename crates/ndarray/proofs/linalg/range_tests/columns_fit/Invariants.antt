-- The columns so far fit.
use Rattle.std.proofs.Common.{ℕ, ◌<◌}
use Rattle.ndarray.specs.Products.{matrix_of, row_of}
use Rattle.ndarray.specs.WholeValues.{whole_numbers}
use Rattle.ndarray.proofs.cells.EntryTests.{EntryFits}
use Rattle.ndarray.proofs.linalg.range_tests.columns_fit.Given as goal

abbrev pub invariant-loop-j : goal.invariant-loop-j
invariant-loop-j g l =
    let e = whole_numbers g.A.Number.value g.A.Number.fits in
    (k : ℕ) → k < l.j → EntryFits g.A.Number.fits (row_of e l.x) (matrix_of e l.b) 0 k
