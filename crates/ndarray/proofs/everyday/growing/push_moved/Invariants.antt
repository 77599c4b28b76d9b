-- What was pushed, with what is to come, is the whole.
use Rattle.std.proofs.Common.{◌≡◌, ◌≤◌, length}
use Rattle.ndarray.specs.base.Builder.{pushed_all}
use Rattle.ndarray.proofs.everyday.growing.push_moved.Given as goal

abbrev pub invariant-loop-cell : goal.invariant-loop-cell
invariant-loop-cell g l = record {
  pushed : pushed_all l.builder l.cell-iterator ≡ pushed_all l.initial.builder l.initial.cell-iterator;
  grown : length l.initial.builder.cells ≤ length l.builder.cells;
}
