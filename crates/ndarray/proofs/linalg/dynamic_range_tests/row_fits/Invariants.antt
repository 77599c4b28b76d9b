-- The columns to come fit where all do, and the other way round.
use Rattle.std.proofs.Common.{◌↔◌, All}
use Rattle.ndarray.specs.DotRanges.{HasInnerMagnitudeInRange, HasInnerSumInRange}
use Rattle.ndarray.proofs.linalg.dynamic_range_tests.row_fits.Given as goal

abbrev pub invariant-loop-column : goal.invariant-loop-column
invariant-loop-column g l = record {
  magnitudes : All (HasInnerMagnitudeInRange g.A.Number.value g.A.Number.fits l.row) l.column-iterator ↔ All (HasInnerMagnitudeInRange g.A.Number.value g.A.Number.fits l.row) l.fn.columns.cells;
  sums : All (HasInnerSumInRange g.A.Number.value g.A.Number.fits l.row) l.column-iterator → All (HasInnerSumInRange g.A.Number.value g.A.Number.fits l.row) l.fn.columns.cells;
}
