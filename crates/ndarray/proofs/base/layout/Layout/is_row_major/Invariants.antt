use Rattle.std.proofs.Common.{◌≡◌, ℕ, ◌<◌}
use Rattle.ndarray.specs.base.Ranks.{block_in}
use Rattle.ndarray.specs.declared.base.shape.Order.TheVariants.{RowMajor}
use Rattle.ndarray.proofs.strides.Strides.{IsContiguousAt}
use Rattle.ndarray.proofs.base.layout.Layout.is_row_major.Given as goal

abbrev pub invariant-loop-p : goal.invariant-loop-p
invariant-loop-p g l = record {
  block : l.block ≡ block_in RowMajor (g.D.Lengths.numbers l.self.dim) l.p;
  each : (q : ℕ) → q < l.p → IsContiguousAt (g.D.Lengths.numbers l.self.dim) (g.D.Lengths.numbers l.self.strides) q;
}
