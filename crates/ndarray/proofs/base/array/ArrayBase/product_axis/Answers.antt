use Rattle.std.proofs.Common.{arith, subst}
use Rattle.std.specs.Prelude.{IfOk}
use Rattle.std.proofs.lemmas.Result.{IfOk-weaker}
use Rattle.ndarray.specs.AlongAxis.{IsTotalOf}
use Rattle.ndarray.specs.Elementwise.{Maps}
use Rattle.ndarray.specs.Subviews.{lanes_of}
use Rattle.ndarray.proofs.callers.Lanes.{lanes-follow}
use Rattle.ndarray.proofs.base.array.ArrayBase.product_axis.Goals as goal

pub returns-clause-values : goal.returns-clause-values
returns-clause-values g c h acts =
    IfOk-weaker c.totals_along-2.result _ _
    (λ r made. lanes-follow c.args.self.now c.args.axis.0 (omega (arith, c.requires.axis)) _ h acts r made)
    (subst (λ v. IfOk c.totals_along-2.result (Maps (IsTotalOf g.A.Valued.multiplication g.A.Valued.meaning) (lanes_of v c.args.axis.0))) c.view.ensures.same c.totals_along-2.ensures.made)
