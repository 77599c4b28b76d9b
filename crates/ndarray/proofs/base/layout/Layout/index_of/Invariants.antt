use Rattle.std.proofs.Common.{◌≡◌, ℕ, List, length}
use Rattle.std.specs.List.{sum_by}
use Rattle.ndarray.specs.Index.{InBox}
use Rattle.ndarray.specs.base.Places.{place}
use Rattle.ndarray.specs.base.Nested.{AreNested}
use Rattle.ndarray.proofs.strides.IndexOfPlace.{SearchState}
use Rattle.ndarray.proofs.base.layout.Layout.index_of.Given as goal

abbrev pub invariant-loop-k : goal.invariant-loop-k
invariant-loop-k g l = record {
  dims : length (g.D.Lengths.numbers l.dim) ≡ length (g.D.Lengths.numbers l.self.dim);
  indices : length (g.D.Lengths.numbers l.index) ≡ length (g.D.Lengths.numbers l.self.dim);
  nested : AreNested (g.D.Lengths.numbers l.dim) (g.D.Lengths.numbers l.self.strides);
  each : (is : List ℕ) → InBox (g.D.Lengths.numbers l.self.dim) is → place l.self.start (g.D.Lengths.numbers l.self.strides) is ≡ l.at → SearchState (g.D.Lengths.numbers l.self.dim) (g.D.Lengths.numbers l.self.strides) (g.D.Lengths.numbers l.dim) l.rest (g.D.Lengths.numbers l.index) is;
}

abbrev pub decreases-loop-k : goal.decreases-loop-k
decreases-loop-k g l = sum_by (λ n. n) (g.D.Lengths.numbers l.dim)
