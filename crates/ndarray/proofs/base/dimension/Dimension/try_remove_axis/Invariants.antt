-- So far the list has the first numbers of the list that it becomes.
use Rattle.std.proofs.Common.{remove}
use Rattle.ndarray.proofs.lists.Prefixes.{IsFilledTo}
use Rattle.ndarray.proofs.base.dimension.Dimension.try_remove_axis.Given as goal

abbrev pub invariant-loop-k : goal.invariant-loop-k
invariant-loop-k g l = IsFilledTo (remove (g.Self.Lengths.numbers l.self) l.fn.axis.0) l.k (g.Self.Smaller.Lengths.numbers l.smaller)

abbrev pub invariant-loop-k-2 : goal.invariant-loop-k-2
invariant-loop-k-2 g l = IsFilledTo (remove (g.Self.Lengths.numbers l.self) l.fn.axis.0) l.k (g.Self.Smaller.Lengths.numbers l.smaller)
