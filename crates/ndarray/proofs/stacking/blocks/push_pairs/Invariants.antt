-- What was pushed, with the pairs at the rows to come, is the whole.
use Rattle.std.proofs.Common.{◌≡◌, ◌<◌, [], ◌∷◌, All, length}
use Rattle.std.specs.Prelude.{flat_map}
use Rattle.ndarray.specs.Index.{InBox}
use Rattle.ndarray.specs.order.Rows.{joined}
use Rattle.ndarray.specs.base.Builder.{pushed_all}
use Rattle.ndarray.specs.stacking.Blocks.{all_blocks, blocks_at}
use Rattle.ndarray.proofs.stacking.blocks.push_pairs.Given as goal

abbrev pub invariant-loop-row : goal.invariant-loop-row
invariant-loop-row g l = record {
  pushed : pushed_all l.builder (flat_map (λ is. blocks_at l.axis is (l.left ∷ l.right ∷ [])) (joined l.rows)) ≡ pushed_all l.initial.builder (all_blocks l.axis (g.D.Lengths.numbers l.fn.outer) (l.left ∷ l.right ∷ []));
  within : All (λ row. (0 < length row) × All (InBox (g.D.Lengths.numbers l.fn.outer)) row) l.rows;
}

abbrev pub decreases-loop-row : goal.decreases-loop-row
decreases-loop-row g l = length l.rows
