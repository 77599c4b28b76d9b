use Rattle.std.proofs.Common.{arith}
use Rattle.std.proofs.lemmas.List.{length-replicate, get_or-replicate}
use Rattle.ndarray.proofs.lists.Prefixes.{IsFilledTo-none, IsFilledTo-more, IsFilledTo-all}
use Rattle.ndarray.proofs.subviews.positions.ones.Goals as goal

pub loop-k-init : goal.loop-k-init
loop-k-init g c = IsFilledTo-none _ _ (grind (arith, length-replicate))

pub loop-k-preserved : goal.loop-k-preserved
loop-k-preserved g c = IsFilledTo-more _ _ _ _ 1 0 c.loop-k.invariant (grind (arith, length-replicate)) c.set_axis.ensures (get_or-replicate _ c.loop-k.k 1 0 (omega arith))

pub returns : goal.returns
returns g c = IsFilledTo-all _ _ _ c.loop-k.invariant (grind (arith, length-replicate))
