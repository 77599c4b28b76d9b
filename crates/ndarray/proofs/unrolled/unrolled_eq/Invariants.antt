use Rattle.std.proofs.Common.{ℕ, ◌-◌, ◌<◌, ◌≤◌, IsTrue, get_or}
use Rattle.ndarray.proofs.unrolled.unrolled_eq.Given as goal

abbrev pub invariant-eights : goal.invariant-eights
invariant-eights g l = record {
  in_range : l.i ≤ l.n;
  same : (k : ℕ) (x y : _) → k < l.i → IsTrue (g.A.PartialEq.eq (get_or l.xs k x) (get_or l.ys k y));
}

abbrev pub decreases-eights : goal.decreases-eights
decreases-eights g l = l.n - l.i

abbrev pub invariant-rest : goal.invariant-rest
invariant-rest g l = record {
  in_range : l.i ≤ l.n;
  same : (k : ℕ) (x y : _) → k < l.i → IsTrue (g.A.PartialEq.eq (get_or l.xs k x) (get_or l.ys k y));
}

abbrev pub decreases-rest : goal.decreases-rest
decreases-rest g l = l.n - l.i
