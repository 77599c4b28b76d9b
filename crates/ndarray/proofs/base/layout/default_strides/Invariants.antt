use Rattle.std.proofs.Common.{◌≡◌, ℕ, ◌<◌, get_or, length}
use Rattle.ndarray.specs.base.Ranks.{axis_in, block_in}
use Rattle.ndarray.proofs.base.layout.default_strides.Given as goal

abbrev pub invariant-loop-p : goal.invariant-loop-p
invariant-loop-p g l = record {
  as_many : length (g.D.Lengths.numbers l.strides) ≡ l.ndim;
  block : l.block ≡ block_in l.order (g.D.Lengths.numbers l.dim) l.p;
  each : (q : ℕ) → q < l.p → get_or (g.D.Lengths.numbers l.strides) (axis_in l.order l.ndim q) 0 ≡ block_in l.order (g.D.Lengths.numbers l.dim) q;
}
