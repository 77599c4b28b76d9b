use Rattle.std.proofs.Common.{◌≡◌, ℕ, ◌<◌, ◌-◌, get_or, length}
use Rattle.ndarray.proofs.base.layout.reversed.Given as goal

abbrev pub invariant-loop-k : goal.invariant-loop-k
invariant-loop-k g l = record {
  as_many : length (g.D.Lengths.numbers l.result) ≡ l.ndim;
  each : (j : ℕ) → j < l.k → get_or (g.D.Lengths.numbers l.result) (l.ndim - 1 - j) 0 ≡ get_or (g.D.Lengths.numbers l.numbers) j 0;
}
