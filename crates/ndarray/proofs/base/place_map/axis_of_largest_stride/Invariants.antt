use Rattle.std.proofs.Common.{◌≡◌, ◌<◌, ◌≤◌, ℕ, get_or, MatchOption}
use Rattle.ndarray.specs.base.Nested.{distance}
use Rattle.ndarray.proofs.base.place_map.axis_of_largest_stride.Given as goal

abbrev pub invariant-loop-k : goal.invariant-loop-k
invariant-loop-k g l =
    MatchOption l.best
    ((l.most ≡ 0) × ((j : ℕ) → j < l.k → get_or (g.D.Lengths.numbers l.dim) j 0 ≤ 1))
    (λ k. (k < l.k) × (1 < get_or (g.D.Lengths.numbers l.dim) k 0) × (l.most ≡ distance (get_or (g.D.Lengths.numbers l.strides) k 0)) × ((j : ℕ) → j < l.k → 1 < get_or (g.D.Lengths.numbers l.dim) j 0 → distance (get_or (g.D.Lengths.numbers l.strides) j 0) ≤ distance (get_or (g.D.Lengths.numbers l.strides) k 0)))
