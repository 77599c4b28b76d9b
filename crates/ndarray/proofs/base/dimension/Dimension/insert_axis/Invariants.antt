-- So far the list has the first numbers of the list that it becomes.
use Rattle.std.proofs.Common.{◌+◌, insert}
use Rattle.ndarray.proofs.lists.Prefixes.{IsFilledTo}
use Rattle.ndarray.proofs.base.dimension.Dimension.insert_axis.Given as goal

abbrev pub invariant-loop-k : goal.invariant-loop-k
invariant-loop-k g l = IsFilledTo (insert (g.Self.Lengths.numbers l.self) l.fn.axis.0 1) l.k (g.Self.Larger.Lengths.numbers l.larger)

abbrev pub invariant-loop-k-2 : goal.invariant-loop-k-2
invariant-loop-k-2 g l = IsFilledTo (insert (g.Self.Lengths.numbers l.self) l.fn.axis.0 1) (l.k + 1) (g.Self.Larger.Lengths.numbers l.larger)
