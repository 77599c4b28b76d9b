-- What was pushed, with what is to come, is the whole.
use Rattle.std.proofs.Common.{◌≡◌, ◌≤◌, length}
use Rattle.ndarray.specs.base.Builder.{pushed_all}
use Rattle.ndarray.proofs.base.builder.ArrayBuilder.push_steps.Given as goal

abbrev pub invariant-loop-cell : goal.invariant-loop-cell
invariant-loop-cell g l = record {
  pushed : pushed_all l.self l.cell-iterator ≡ pushed_all l.initial.self l.initial.cell-iterator;
  grown : length l.initial.self.cells ≤ length l.self.cells;
}
