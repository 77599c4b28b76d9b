-- The rows so far pass.
use Rattle.std.proofs.Common.{ℕ, ◌<◌}
use Rattle.ndarray.proofs.cells.AccumulationTests.{RowAccumulates}
use Rattle.ndarray.proofs.linalg.general_range_tests.rows_accumulate.Given as goal

abbrev pub invariant-loop-i : goal.invariant-loop-i
invariant-loop-i g l = (k : ℕ) → k < l.i → RowAccumulates g.A.Number.value g.A.Number.fits l.alpha l.beta l.a l.x l.y k
