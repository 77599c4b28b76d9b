-- The cells are the difference of that order, and each one that was taken on the way fits.
use Rattle.ndarray.specs.AlongAxis.{IsDifferenceOf}
use Rattle.ndarray.specs.AlongAxisRanges.{HasDifferencesInRange}
use Rattle.ndarray.proofs.reduce.along_axis_range_tests.differences_fit.Given as goal

abbrev pub invariant-loop : goal.invariant-loop
invariant-loop g l = record {
  so_far : IsDifferenceOf g.A.Sub.sub_gives l.axis.0 l.counter l.array l.cells;
  range : HasDifferencesInRange g.A.Number.value g.A.Number.fits l.axis.0 l.counter l.array;
}
