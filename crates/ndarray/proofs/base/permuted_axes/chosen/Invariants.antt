-- So far the list has the numbers of the first named axes.
use Rattle.std.proofs.Common.{map, slice_index}
use Rattle.ndarray.proofs.lists.Prefixes.{IsFilledTo}
use Rattle.ndarray.proofs.base.permuted_axes.chosen.Given as goal

abbrev pub invariant-loop-k : goal.invariant-loop-k
invariant-loop-k g l = IsFilledTo (map (λ axis. slice_index (g.D.Lengths.numbers l.numbers) axis) (g.D.Lengths.numbers l.axes)) l.k (g.D.Lengths.numbers l.result)
