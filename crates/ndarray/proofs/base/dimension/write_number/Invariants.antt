use Rattle.std.proofs.Common.{◌≡◌, ◌<◌, ◌≤◌, set}
use Rattle.ndarray.proofs.base.dimension.write_number.Given as goal

abbrev pub invariant-loop-k : goal.invariant-loop-k
invariant-loop-k l = (l.place < l.k → l.numbers ≡ set l.fn.numbers l.place l.number) × (l.k ≤ l.place → l.numbers ≡ l.fn.numbers)
