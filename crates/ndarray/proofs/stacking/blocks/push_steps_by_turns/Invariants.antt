-- What was pushed, with what is to come, is the whole.
use Rattle.std.proofs.Common.{◌≡◌, length}
use Rattle.ndarray.specs.base.Builder.{pushed_all}
use Rattle.ndarray.specs.stacking.Blocks.{by_turns}
use Rattle.ndarray.proofs.stacking.blocks.push_steps_by_turns.Given as goal

abbrev pub invariant-loop-x : goal.invariant-loop-x
invariant-loop-x g l = pushed_all l.builder (by_turns l.pairs.first l.pairs.second) ≡ pushed_all l.initial.builder (by_turns l.fn.pairs.first l.fn.pairs.second)

abbrev pub decreases-loop-x : goal.decreases-loop-x
decreases-loop-x g l = length l.pairs.first
