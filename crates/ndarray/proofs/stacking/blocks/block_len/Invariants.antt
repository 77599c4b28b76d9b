use Rattle.std.proofs.Common.{◌≡◌}
use Rattle.ndarray.specs.declared.base.shape.Order.TheVariants.{RowMajor}
use Rattle.ndarray.specs.base.Ranks.{block_in}
use Rattle.ndarray.proofs.stacking.blocks.block_len.Given as goal

abbrev pub invariant-loop-p : goal.invariant-loop-p
invariant-loop-p g l = l.len ≡ block_in RowMajor (g.D.Lengths.numbers l.dim) l.p
