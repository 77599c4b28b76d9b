use Rattle.std.proofs.Common.{inl, inr, subst}
use Rattle.ndtables.specs.Reducing.{CanMultiplyAlong, ForbidsMaking, HasAxis, ProductsFit}
use Rattle.ndtables.specs.Faults.{ForbidsTotals}
use Rattle.ndtables.proofs.FaultsPassedOn.{passed-on}
use Rattle.ndtables.proofs.command.product_axis.Goals as goal

pub returns-in_err-axis-clause-err : goal.returns-in_err-axis-clause-err
returns-in_err-axis-clause-err c = passed-on (ForbidsTotals ProductsFit c.args.words.now) c.from_residual.result c.in_err-axis.field-0.0 c.from_residual.ensures.1 (inl c.in_err-axis.ensures.err)

pub returns-in_err-products-clause-err : goal.returns-in_err-products-clause-err
returns-in_err-products-clause-err c =
    passed-on (ForbidsTotals ProductsFit c.args.words.now) c.from_residual-in_err-products.result c.in_err-products.field-0.0 c.from_residual-in_err-products.ensures.1 (inr (c.in_ok-axis.axis.0, c.in_ok-axis.table, c.in_ok-axis.ensures.read, subst (λ g. ForbidsMaking (HasAxis g c.in_ok-axis.axis.0) (CanMultiplyAlong g c.in_ok-axis.axis.0) c.in_err-products.field-0.0) c.view.ensures.same c.in_err-products.ensures.err))
