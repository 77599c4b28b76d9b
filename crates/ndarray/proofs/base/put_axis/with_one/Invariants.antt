-- So far the list has the first numbers of the list that it becomes.
use Rattle.std.proofs.Common.{◌+◌, insert}
use Rattle.ndarray.proofs.lists.Prefixes.{IsFilledTo}
use Rattle.ndarray.proofs.base.put_axis.with_one.Given as goal

abbrev pub invariant-loop-k : goal.invariant-loop-k
invariant-loop-k g l = IsFilledTo (insert (g.D.Lengths.numbers l.numbers) l.fn.place 1) l.k (g.E.Lengths.numbers l.more)

abbrev pub invariant-loop-k-2 : goal.invariant-loop-k-2
invariant-loop-k-2 g l = IsFilledTo (insert (g.D.Lengths.numbers l.numbers) l.fn.place 1) (l.k + 1) (g.E.Lengths.numbers l.more)
