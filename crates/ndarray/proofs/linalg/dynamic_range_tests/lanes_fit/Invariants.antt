-- The rows to come fit with each column where all do, and the other way round.
use Rattle.std.proofs.Common.{◌↔◌, All}
use Rattle.ndarray.specs.DotRanges.{HasInnerMagnitudeInRange, HasInnerSumInRange}
use Rattle.ndarray.proofs.cells.LanePairs.{EachColumn, rows_of}
use Rattle.ndarray.proofs.linalg.dynamic_range_tests.lanes_fit.Given as goal

abbrev pub invariant-loop-row : goal.invariant-loop-row
invariant-loop-row g l = record {
  magnitudes : All (EachColumn (HasInnerMagnitudeInRange g.A.Number.value g.A.Number.fits) l.y) l.row-iterator ↔ All (EachColumn (HasInnerMagnitudeInRange g.A.Number.value g.A.Number.fits) l.y) (rows_of l.x).cells;
  sums : All (EachColumn (HasInnerSumInRange g.A.Number.value g.A.Number.fits) l.y) l.row-iterator → All (EachColumn (HasInnerSumInRange g.A.Number.value g.A.Number.fits) l.y) (rows_of l.x).cells;
}
