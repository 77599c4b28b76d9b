use Rattle.std.proofs.Common.{◌≡◌, ℕ, ◌<◌, take, get_or}
use Rattle.ndarray.specs.base.Places.{place}
use Rattle.ndarray.proofs.base.layout.Layout.find.Given as goal

abbrev pub invariant-loop-k : goal.invariant-loop-k
invariant-loop-k g l = record {
  below : (j : ℕ) → j < l.k → get_or (g.D.Lengths.numbers l.index) j 0 < get_or (g.D.Lengths.numbers l.self.dim) j 0;
  at : l.at ≡ place l.self.start (take l.k (g.D.Lengths.numbers l.self.strides)) (take l.k (g.D.Lengths.numbers l.index));
}
