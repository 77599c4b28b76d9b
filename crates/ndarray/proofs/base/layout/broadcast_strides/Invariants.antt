use Rattle.std.proofs.Common.{◌≡◌, ℕ, ◌<◌, ◌+◌, ◌⊎◌, get_or, length}
use Rattle.ndarray.proofs.base.layout.broadcast_strides.Given as goal

abbrev pub invariant-loop-k : goal.invariant-loop-k
invariant-loop-k g l = record {
  as_many : length (g.E.Lengths.numbers l.result) ≡ l.m;
  none : (j : ℕ) → j < l.missing → get_or (g.E.Lengths.numbers l.result) j 0 ≡ 0;
  each : (j : ℕ) → j < l.k → ((get_or (g.D.Lengths.numbers l.dim) j 0 ≡ 1) × (get_or (g.E.Lengths.numbers l.result) (l.missing + j) 0 ≡ 0)) ⊎ ((get_or (g.D.Lengths.numbers l.dim) j 0 ≡ get_or (g.E.Lengths.numbers l.to) (l.missing + j) 0) × (get_or (g.E.Lengths.numbers l.result) (l.missing + j) 0 ≡ get_or (g.D.Lengths.numbers l.strides) j 0));
}
