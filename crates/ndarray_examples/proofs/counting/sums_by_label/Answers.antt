use Rattle.ndarray.proofs.Common.{rules, arith, named-all, named-more, named-none, named-room, zip-next, zip-over}
use Rattle.ndarray_examples.proofs.counting.sums_by_label.Goals as goal

pub loop-label-init : goal.loop-label-init
loop-label-init g c = named-none _ _ _ _ _ _ (search rules) c.in_ok-sums.ensures.lengths c.in_ok-sums.ensures.cells

pub overflow_add-index_mut : goal.overflow_add-index_mut
overflow_add-index_mut g c = omega (arith, named-room c.loop-label.invariant (zip-next c.in-Some.ensures.steps) c.index_mut.ensures.value, c.requires.fits)

pub loop-label-preserved : goal.loop-label-preserved
loop-label-preserved g c = named-more c.loop-label.invariant (zip-next c.in-Some.ensures.steps) c.index_mut.ensures.value

pub returns : goal.returns
returns g c = named-all c.loop-label.invariant (zip-over c.in-None.ensures.steps)
