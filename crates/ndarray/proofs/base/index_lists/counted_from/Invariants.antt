-- So far the first axes are counted from the start.
use Rattle.std.proofs.Common.{◌≡◌, take}
use Rattle.ndarray.specs.base.IndexLists.{shifted_index}
use Rattle.ndarray.proofs.base.index_lists.counted_from.Given as goal

abbrev pub invariant-loop-k : goal.invariant-loop-k
invariant-loop-k g l = g.D.Lengths.numbers l.list ≡ shifted_index (take l.k (g.D.Lengths.numbers l.start)) (g.D.Lengths.numbers l.index)
