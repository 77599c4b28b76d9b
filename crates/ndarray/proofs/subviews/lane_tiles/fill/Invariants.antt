use Rattle.std.proofs.Common.{◌≡◌, ◌<◌, ℕ, get_or}
use Rattle.ndarray.proofs.subviews.lane_tiles.fill.Given as goal

abbrev pub invariant-loop-t : goal.invariant-loop-t
invariant-loop-t g l = (j : ℕ) (d : g.row.B.Denot) → j < l.t → get_or l.values j d ≡ l.value
