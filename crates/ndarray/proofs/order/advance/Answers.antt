use Rattle.std.proofs.Common.{arith, ap, subst, sym, ◌∙◌, ◌+◌}
use Rattle.ndarray.specs.Index.{InBox}
use Rattle.ndarray.specs.base.Ranks.{rank_in, block_in}
use Rattle.ndarray.proofs.boxes.Boxes.{InBox-length, InBox-get}
use Rattle.ndarray.proofs.boxes.Walks.{step-ends, step-on}
use Rattle.ndarray.proofs.order.advance.Goals as goal
use Rattle.ndarray.proofs.order.advance.Goals.{then-next-end, else-next-end}

pub axis-requires : goal.axis-requires
axis-requires g c = let l = InBox-length _ _ c.loop-p.invariant.within in omega arith

pub overflow_add-next : goal.overflow_add-next
overflow_add-next g c =
    let h = InBox-get _ _ c.axis_at-k.result c.loop-p.invariant.within (omega arith) in
    let b = c.loop-p.invariant.bit in
    omega arith

pub set_axis-requires : goal.set_axis-requires
set_axis-requires g c = let l = InBox-length _ _ c.loop-p.invariant.within in omega arith

pub set_axis-requires-else-next-end : goal.set_axis-requires-else-next-end
set_axis-requires-else-next-end g c = let l = InBox-length _ _ c.loop-p.invariant.within in omega arith

pub loop-p-preserved : goal.loop-p-preserved
loop-p-preserved g c =
    let axes = g.D.Lengths.numbers in
    let o = c.args.order in
    let ns = axes c.args.dim.now in
    let h = c.loop-p.invariant in
    elim c.if-next-end.branch [
      | then-next-end w ↦ (let s = step-ends o ns (axes c.loop-p.index) (axes w.set_axis.new.self) c.ndim-ndim.result c.loop-p.p c.axis_at-k.result c.axis.result c.loop-p.carry _
          h.within c.ndim-ndim.ensures.value c.loop-p-test.true c.axis_at-k.ensures.value c.axis.ensures h.bit h.carries h.done (omega (arith, w.if-next-end.true, c.axis-end.ensures)) w.set_axis.ensures in
          record {
            within = subst (λ x. InBox ns (axes x)) (sym w.index-is) s.0;
            bit = omega (arith, w.carry-is);
            carries = λ one. absurd (omega (arith, w.carry-is));
            done = λ none. ap (λ x. rank_in o ns (axes x)) w.index-is ∙ s.1;
          })
      | else-next-end w ↦ (let s = step-on o ns (axes c.loop-p.index) (axes w.set_axis-else-next-end.new.self) c.ndim-ndim.result c.loop-p.p c.axis_at-k.result c.axis.result c.loop-p.carry _
          h.within c.ndim-ndim.ensures.value c.loop-p-test.true c.axis_at-k.ensures.value c.axis.ensures h.bit h.carries (omega (arith, w.if-next-end.false, c.axis-end.ensures)) w.set_axis-else-next-end.ensures in
          record {
            within = subst (λ x. InBox ns (axes x)) (sym w.index-is) s.1.0;
            bit = omega (arith, w.carry-is, h.bit);
            carries = λ one. ap (λ x. rank_in o ns (axes x) + block_in o ns (c.loop-p.p + 1)) w.index-is ∙ s.1.1;
            done = λ none. absurd (omega (arith, w.carry-is, s.0));
          })
    ]
