use Rattle.std.proofs.Common.{arith, ◌≡◌, ◌*◌, ◌+◌, ap, length, length-set}
use Rattle.ndarray.specs.base.Ranks.{block_in}
use Rattle.ndarray.proofs.strides.Strides.{block_in-fits, block-step, strides-more}
use Rattle.ndarray.proofs.base.layout.default_strides.Goals as goal

more : (g : _) (c : goal.After-axis-block g) → c.loop-p.block * c.axis-block.result ≡ block_in c.args.order (g.D.Lengths.numbers c.args.dim.now) (c.loop-p.p + 1)
more g c =
    block-step c.args.order (g.D.Lengths.numbers c.args.dim.now) c.ndim-ndim.result c.loop-p.p c.axis_at-k.result c.loop-p.block c.axis-block.result c.ndim-ndim.ensures.value c.loop-p-test.true c.axis_at-k.ensures.value c.axis-block.ensures c.loop-p.invariant.block

pub overflow_mul-block : goal.overflow_mul-block
overflow_mul-block g c = let f = block_in-fits c.args.order (g.D.Lengths.numbers c.args.dim.now) (c.loop-p.p + 1) c.requires in omega (arith, more g c)

pub loop-p-preserved : goal.loop-p-preserved
loop-p-preserved g c =
    record {
      as_many = omega (arith, ap length c.set_axis.ensures, length-set (g.D.Lengths.numbers c.loop-p.strides) c.axis_at-k.result c.loop-p.block);
      block = more g c;
      each = strides-more c.args.order c.ndim-ndim.result c.loop-p.p c.axis_at-k.result c.loop-p.block (g.D.Lengths.numbers c.loop-p.strides) _ (block_in c.args.order (g.D.Lengths.numbers c.args.dim.now)) c.loop-p-test.true c.axis_at-k.ensures.value c.loop-p.invariant.as_many c.set_axis.ensures c.loop-p.invariant.block c.loop-p.invariant.each;
    }
