use Rattle.ndarray.specs.AlongAxis.{IsDifferenceOf}
use Rattle.ndtables.specs.Reducing.{CanDifferAlong, subtraction_gives}
use Rattle.ndtables.proofs.reducing.differences.Given as goal

-- the cells are the difference of the order so far, and each one on the way is an `i64`
abbrev pub invariant-loop : goal.invariant-loop
invariant-loop l = record {
  made : IsDifferenceOf subtraction_gives l.axis.0 l.counter l.table l.cells;
  fits : CanDifferAlong l.table l.counter l.axis.0;
}
