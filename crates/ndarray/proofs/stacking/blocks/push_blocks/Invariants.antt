-- What was pushed, with the blocks to come, is the whole.
use Rattle.std.proofs.Common.{◌≡◌, ◌≤◌, drop, length}
use Rattle.ndarray.specs.base.Builder.{pushed_all}
use Rattle.ndarray.specs.stacking.Blocks.{blocks_at}
use Rattle.ndarray.proofs.stacking.blocks.push_blocks.Given as goal

abbrev pub invariant-loop-array : goal.invariant-loop-array
invariant-loop-array g l = record {
  pushed : pushed_all l.builder (blocks_at l.axis (g.D.Lengths.numbers l.index) (drop l.array-index l.arrays)) ≡ pushed_all l.initial.builder (blocks_at l.axis (g.D.Lengths.numbers l.index) l.arrays);
  grown : length l.initial.builder.cells ≤ length l.builder.cells;
}
