use Rattle.ndarray.proofs.Common.{rules, arith, ap, length, length-zip, zip, named-all, named-more, named-none, named-room, sum-of_ones, zip-next, zip-over}
use Rattle.ndarray_examples.proofs.counting.joint_histogram.Goals as goal

pub loop-x-init : goal.loop-x-init
loop-x-init g c = named-none _ _ _ _ _ _ (search rules) c.in_ok-counts.ensures.lengths c.in_ok-counts.ensures.cells

pub overflow_add-index_mut : goal.overflow_add-index_mut
overflow_add-index_mut g c =
    let pairs = zip c.args.first.now.cells c.args.second.now.cells in
    let room = named-room {all = pairs} c.loop-x.invariant (zip-next c.in-Some.ensures.steps) c.index_mut.ensures.value in
    omega (arith, room, sum-of_ones pairs, length-zip c.args.first.now.cells c.args.second.now.cells, ap length c.iter.ensures.cells)

pub loop-x-preserved : goal.loop-x-preserved
loop-x-preserved g c = named-more c.loop-x.invariant (zip-next c.in-Some.ensures.steps) c.index_mut.ensures.value

pub returns : goal.returns
returns g c = named-all c.loop-x.invariant (zip-over c.in-None.ensures.steps)
