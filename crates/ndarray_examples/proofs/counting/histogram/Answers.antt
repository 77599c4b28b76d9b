use Rattle.ndarray.proofs.Common.{rules, arith, ap, length, named-all, named-more, named-none, named-room, sum-of_ones}
use Rattle.ndarray_examples.proofs.counting.histogram.Goals as goal

pub loop-pixel-init : goal.loop-pixel-init
loop-pixel-init g c = named-none _ _ _ _ _ _ (search rules) c.in_ok-counts.ensures.lengths c.in_ok-counts.ensures.cells

pub overflow_add-index_mut : goal.overflow_add-index_mut
overflow_add-index_mut g c =
    omega (arith, named-room c.loop-pixel.invariant c.in-Some.ensures.steps c.index_mut.ensures.value, sum-of_ones c.args.image.now.cells, ap length c.iter-pixel-items.ensures.cells)

pub loop-pixel-preserved : goal.loop-pixel-preserved
loop-pixel-preserved g c = named-more c.loop-pixel.invariant c.in-Some.ensures.steps c.index_mut.ensures.value

pub returns : goal.returns
returns g c = named-all c.loop-pixel.invariant c.in-None.ensures.steps.0
