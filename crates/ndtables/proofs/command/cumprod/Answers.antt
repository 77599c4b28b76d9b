use Rattle.std.proofs.Common.{inl, inr, subst}
use Rattle.ndtables.specs.Reducing.{CanCumulateAlong, ForbidsMaking, HasAxis}
use Rattle.ndtables.specs.Faults.{ForbidsCumprod}
use Rattle.ndtables.proofs.FaultsPassedOn.{passed-on}
use Rattle.ndtables.proofs.command.cumprod.Goals as goal

pub returns-in_err-axis-clause-err : goal.returns-in_err-axis-clause-err
returns-in_err-axis-clause-err c =
    passed-on (ForbidsCumprod c.args.words.now) c.from_residual.result c.in_err-axis.field-0.0 c.from_residual.ensures.1 (inl c.in_err-axis.ensures.err)

pub returns-in_err-products-clause-err : goal.returns-in_err-products-clause-err
returns-in_err-products-clause-err c =
    let axis = c.in_ok-axis.axis.0 in
    let fault = c.in_err-products.field-0.0 in
    let forbids = subst (λ g. ForbidsMaking (HasAxis g axis) (CanCumulateAlong g axis) fault) c.view.ensures.same c.in_err-products.ensures.err in
    passed-on (ForbidsCumprod c.args.words.now) c.from_residual-in_err-products.result c.in_err-products.field-0.0 c.from_residual-in_err-products.ensures.1 (inr (axis, c.in_ok-axis.table, c.in_ok-axis.ensures.read, forbids))
