use Rattle.std.proofs.Common.{◌≡◌, ◌+◌, ◌*◌, arith, refl}
use Rattle.ndarray.specs.declared.base.shape.Order.TheVariants.{RowMajor}
use Rattle.ndarray.specs.base.Ranks.{block_in}
use Rattle.ndarray.proofs.strides.Strides.{block_in-fits, block-step}
use Rattle.ndarray.proofs.stacking.blocks.block_len.Goals as goal

more : (g : _) (c : goal.After-axis-len g) → c.loop-p.len * c.axis-len.result ≡ block_in RowMajor (g.D.Lengths.numbers c.args.dim.now) (c.loop-p.p + 1)
more g c =
    let t = c.loop-p-test.true in
    block-step RowMajor (g.D.Lengths.numbers c.args.dim.now) c.ndim-ndim.result c.loop-p.p _ c.loop-p.len c.axis-len.result c.ndim-ndim.ensures.value (omega arith) refl c.axis-len.ensures c.loop-p.invariant

pub overflow_mul-len : goal.overflow_mul-len
overflow_mul-len g c = let f = block_in-fits RowMajor (g.D.Lengths.numbers c.args.dim.now) (c.loop-p.p + 1) c.requires.limit in let m = more g c in omega arith

pub loop-p-preserved : goal.loop-p-preserved
loop-p-preserved g c = more g c
