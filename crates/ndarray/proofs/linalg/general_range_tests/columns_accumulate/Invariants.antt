-- The columns so far pass.
use Rattle.std.proofs.Common.{ℕ, ◌<◌}
use Rattle.ndarray.proofs.cells.AccumulationTests.{ColumnAccumulates}
use Rattle.ndarray.proofs.linalg.general_range_tests.columns_accumulate.Given as goal

abbrev pub invariant-loop-j : goal.invariant-loop-j
invariant-loop-j g l = (k : ℕ) → k < l.j → ColumnAccumulates g.A.Number.value g.A.Number.fits l.alpha l.beta l.a l.b l.c k
