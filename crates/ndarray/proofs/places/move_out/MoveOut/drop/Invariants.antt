use Rattle.std.proofs.Common.{◌≡◌, ℕ, ◌<◌, ◌≤◌, None, get_or, length}
use Rattle.ndarray.proofs.places.move_out.MoveOut.drop.Given as goal

-- the places before this one are empty, and the others as they were
abbrev pub invariant-loop-place : goal.invariant-loop-place
invariant-loop-place g l = record {
  as_many : length l.left ≡ length l.initial.left;
  gone : (p : ℕ) → p < l.place → get_or l.left p None ≡ None;
  same : (p : ℕ) → l.place ≤ p → get_or l.left p None ≡ get_or l.initial.left p None;
}
