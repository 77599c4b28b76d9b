-- So far the list has the first numbers of the list that it becomes.
use Rattle.ndarray.proofs.lists.Prefixes.{IsFilledTo}
use Rattle.ndarray.proofs.base.layout.same_numbers.Given as goal

abbrev pub invariant-loop-k : goal.invariant-loop-k
invariant-loop-k g l = IsFilledTo (g.D.Lengths.numbers l.numbers) l.k (g.E.Lengths.numbers l.same)
