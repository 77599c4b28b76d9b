use Rattle.std.proofs.Common.{◌≡◌, ℕ, ◌<◌, get_or, length}
use Rattle.ndarray.specs.Broadcast.{meeting_length, with_ones_before}
use Rattle.ndarray.proofs.views.BroadcastLengths.{Meet}
use Rattle.ndarray.proofs.base.broadcast.met_lengths.Given as goal

abbrev pub invariant-loop-k : goal.invariant-loop-k
invariant-loop-k g l = record {
  long : length (g.O.Lengths.numbers l.lengths) ≡ l.ndim;
  each : (j : ℕ) → j < l.k → get_or (g.O.Lengths.numbers l.lengths) j 0 ≡ meeting_length (get_or (with_ones_before l.ndim (g.D.Lengths.numbers l.left)) j 0, get_or (with_ones_before l.ndim (g.E.Lengths.numbers l.right)) j 0);
  meet : (j : ℕ) → j < l.k → Meet (g.D.Lengths.numbers l.left) (g.E.Lengths.numbers l.right) j;
}
