use Rattle.std.proofs.Common.{◌≡◌, ◌∙◌, ◌<◌, arith, length, refl, sym}
use Rattle.ndarray.proofs.views.AxisSlices.{slices-each, slices-from_each, slices-length}
use Rattle.ndarray.proofs.base.array.ArrayBase.slices_ok.Goals as goal

pub returns-then-slices-ndim : goal.returns-then-slices-ndim
returns-then-slices-ndim g c = (λ never. cc, λ all. absurd (c.if-slices-ndim.true (slices-length _ _ all ∙ sym c.ndim.ensures.value)))

pub returns-then-not-slice_ok : goal.returns-then-not-slice_ok
returns-then-not-slice_ok g c = (
  λ never. cc,
  λ all.
      let below : c.loop-axis.axis < length c.args.self.now.lengths = omega (arith, c.loop-axis-test.true, slices-length c.args.self.now.lengths c.args.slices.now all) in
      sym c.if-not-slice_ok.true ∙ c.slice_ok.ensures.1 (below, slices-each _ _ _ _ all below),
)

pub returns : goal.returns
returns g c =
    let ended : c.loop-axis.axis ≡ length c.args.slices.now = omega (arith, c.loop-axis-test.false, c.loop-axis.auto.axis-end) in
    (λ _. slices-from_each c.args.self.now.lengths c.args.slices.now (c.if-slices-ndim.false ∙ c.ndim.ensures.value) (λ k s lt here. c.loop-axis.invariant k s (omega (arith, lt, ended, c.if-slices-ndim.false, c.ndim.ensures.value)) here), λ _. refl)
