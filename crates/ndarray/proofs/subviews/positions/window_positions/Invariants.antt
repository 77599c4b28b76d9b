use Rattle.std.proofs.Common.{◌≡◌, ℕ, ◌*◌, ◌%◌, ◌^◌, ◌<◌, ◌⊎◌, length, get_or}
use Rattle.ndarray.specs.Subviews.{window_counts}
use Rattle.ndarray.proofs.lists.Prefixes.{IsFilledTo}
use Rattle.ndarray.proofs.subviews.positions.window_positions.Given as goal

-- so far the numbers of windows and, where there are windows, their distances
abbrev pub invariant-loop-k : goal.invariant-loop-k
invariant-loop-k g l = record {
  counted : IsFilledTo (window_counts (g.D.Lengths.numbers l.layout.dim) (g.D.Lengths.numbers l.window) (g.D.Lengths.numbers l.steps)) l.k (g.D.Lengths.numbers l.dim);
  as_many : length (g.D.Lengths.numbers l.strides) ≡ l.ndim;
  distances : (j : ℕ) → j < l.k → (get_or (window_counts (g.D.Lengths.numbers l.layout.dim) (g.D.Lengths.numbers l.window) (g.D.Lengths.numbers l.steps)) j 0 ≡ 0) ⊎ (get_or (g.D.Lengths.numbers l.strides) j 0 ≡ (get_or (g.D.Lengths.numbers l.layout.strides) j 0 * get_or (g.D.Lengths.numbers l.steps) j 0) % 2 ^ 64);
}
