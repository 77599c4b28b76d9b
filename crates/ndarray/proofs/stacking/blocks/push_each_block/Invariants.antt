-- What was pushed, with the blocks at the index lists to come, is the whole.
use Rattle.std.proofs.Common.{◌≡◌, All}
use Rattle.ndarray.specs.Index.{InBox}
use Rattle.std.specs.Prelude.{flat_map}
use Rattle.ndarray.specs.base.Builder.{pushed_all}
use Rattle.ndarray.specs.stacking.Blocks.{blocks_at}
use Rattle.ndarray.proofs.stacking.blocks.push_each_block.Given as goal

abbrev pub invariant-loop-index : goal.invariant-loop-index
invariant-loop-index g l = record {
  pushed : pushed_all l.builder (flat_map (λ is. blocks_at l.axis is l.arrays) l.index-iterator) ≡ pushed_all l.initial.builder (flat_map (λ is. blocks_at l.axis is l.arrays) l.initial.index-iterator);
  within : All (InBox (g.D.Lengths.numbers l.fn.outer)) l.index-iterator;
}
