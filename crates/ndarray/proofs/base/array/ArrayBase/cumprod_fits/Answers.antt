use Rattle.std.specs.Prelude.{IsTrue}
use Rattle.ndarray.specs.AlongAxisRanges.{HasRunningProductsInRange}
use Rattle.ndarray.specs.Elementwise.{CanMap}
use Rattle.ndarray.specs.Subviews.{lanes_of}
use Rattle.ndarray.proofs.cells.LaneProducts.{cumulates-defined}
use Rattle.ndarray.proofs.base.array.ArrayBase.cumprod_fits.Goals as goal

pub returns-then-axis_ok-clause-defined : goal.returns-then-axis_ok-clause-defined
returns-then-axis_ok-clause-defined g c =
    let exact = g.met.A.Integral.exact_law in
    let lanes : IsTrue c.lanes_cumulate-then-axis_ok.result → CanMap (λ lane. HasRunningProductsInRange g.A.Number.value g.A.Number.fits lane.cells) (lanes_of c.args.self.now c.args.axis.0) = rw c.view.ensures.same at c.lanes_cumulate-then-axis_ok.ensures.0 in
    λ on js lane at. cumulates-defined g.A.Number.value g.A.Number.fits g.A.Mul.can_mul g.A.Mul.mul_gives (λ x p fit. g.met.A.One.can_mul_law x p (λ _. fit)) (λ x p r given fit. g.met.A.One.mul_law x p r given exact fit) lane.cells (lanes on js lane at)
