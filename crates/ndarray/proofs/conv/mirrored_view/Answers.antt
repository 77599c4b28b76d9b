use Rattle.std.proofs.Common.{◌≡◌, ◌+◌, subst, arith, suc, ℕ}
use Rattle.ndarray.specs.Grid.{IsGrid}
use Rattle.ndarray.proofs.convolution.MirroredViews.{IsMirroredFirst, mirrored-end, mirrored-next, mirrored-start}
use Rattle.ndarray.proofs.conv.mirrored_view.Goals as goal

pub loop-axis-init : goal.loop-axis-init
loop-axis-init g c = mirrored-start c.args.array.now c.view-mirrored.result c.view-mirrored.ensures.same c.view-mirrored.ensures.whole

pub loop-axis-preserved : goal.loop-axis-preserved
loop-axis-preserved g c =
    subst (λ (j : ℕ). IsMirroredFirst j c.args.array.now c.invert_axis.new.self) (let e : suc c.loop-axis.axis ≡ c.loop-axis.axis + 1 = omega arith in e)
    (mirrored-next c.loop-axis.axis c.args.array.now c.loop-axis.mirrored c.invert_axis.new.self (omega (arith, c.loop-axis-test.true, c.ndim-axis-end.ensures.value)) c.invert_axis.ensures.value c.invert_axis.ensures.whole c.loop-axis.invariant)

pub returns-clause-cells : goal.returns-clause-cells
returns-clause-cells g c = mirrored-end c.loop-axis.axis c.args.array.now c.loop-axis.mirrored (subst IsGrid c.view-mirrored.ensures.same c.view-mirrored.ensures.whole) (omega (arith, c.loop-axis-test.false, c.ndim-axis-end.ensures.value)) c.loop-axis.invariant
