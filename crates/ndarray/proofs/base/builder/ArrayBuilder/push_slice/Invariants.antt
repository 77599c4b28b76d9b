-- What was pushed, with what is to come, is the whole.
use Rattle.std.proofs.Common.{◌≡◌, ◌≤◌, drop, length}
use Rattle.ndarray.specs.base.Builder.{pushed_all}
use Rattle.ndarray.proofs.base.builder.ArrayBuilder.push_slice.Given as goal

abbrev pub invariant-loop-cell : goal.invariant-loop-cell
invariant-loop-cell g l = record {
  pushed : pushed_all l.self (drop l.cell-index l.cells) ≡ pushed_all l.initial.self l.cells;
  grown : length l.initial.self.cells ≤ length l.self.cells;
}
