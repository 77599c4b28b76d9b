-- What was pushed, with what is to come, is the whole.
use Rattle.std.proofs.Common.{◌≡◌, ◌-◌, drop, length}
use Rattle.ndarray.specs.base.Builder.{pushed_all}
use Rattle.ndarray.specs.stacking.Blocks.{by_turns}
use Rattle.ndarray.proofs.stacking.blocks.push_slices_by_turns.Given as goal

abbrev pub invariant-cells : goal.invariant-cells
invariant-cells g l = pushed_all l.builder (by_turns (drop l.i l.xs) (drop l.i l.ys)) ≡ pushed_all l.initial.builder (by_turns l.xs l.ys)

abbrev pub decreases-cells : goal.decreases-cells
decreases-cells g l = length l.xs - l.i
