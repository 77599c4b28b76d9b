-- What was pushed, with what is to come, is the whole.
use Rattle.std.proofs.Common.{◌≡◌, ◌≤◌, length}
use Rattle.ndarray.specs.base.Builder.{pushed_all}
use Rattle.ndarray.proofs.stacking.blocks.push_clones.Given as goal

abbrev pub invariant-loop-row : goal.invariant-loop-row
invariant-loop-row g l = record {
  pushed : pushed_all l.builder l.cells ≡ pushed_all l.initial.builder l.initial.cells;
  grown : length l.initial.builder.cells ≤ length l.builder.cells;
}

abbrev pub decreases-loop-row : goal.decreases-loop-row
decreases-loop-row g l = length l.cells
