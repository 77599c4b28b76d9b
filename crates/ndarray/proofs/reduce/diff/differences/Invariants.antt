use Rattle.std.proofs.Common.{length}
use Rattle.ndarray.specs.AlongAxis.{IsDifferenceOf}
use Rattle.ndarray.proofs.reduce.diff.differences.Given as goal

abbrev pub invariant-loop : goal.invariant-loop
invariant-loop g l = record {
  so_far : IsDifferenceOf g.A.Sub.sub_gives l.axis.0 l.counter l.array l.cells;
  axes : g.D.Lengths.has_axes (length l.cells.lengths);
}
