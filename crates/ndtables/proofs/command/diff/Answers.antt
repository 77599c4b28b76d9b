use Rattle.std.proofs.Common.{inl, inr, subst}
use Rattle.ndtables.specs.Reducing.{ForbidsDifferences}
use Rattle.ndtables.specs.Faults.{ForbidsDiff}
use Rattle.ndtables.proofs.FaultsPassedOn.{passed-on}
use Rattle.ndtables.proofs.command.diff.Goals as goal

pub returns-in_err-axis-clause-err : goal.returns-in_err-axis-clause-err
returns-in_err-axis-clause-err c =
    passed-on (ForbidsDiff c.args.words.now) c.from_residual-in_err-axis.result c.in_err-axis.field-0.0 c.from_residual-in_err-axis.ensures.1 (inr (c.in_ok-order.order, c.count.new.self, c.in_ok-order.ensures.read, inl c.in_err-axis.ensures.err))

pub returns-in_err-differences-clause-err : goal.returns-in_err-differences-clause-err
returns-in_err-differences-clause-err c =
    let order = c.in_ok-order.order in
    let axis = c.in_ok-axis.axis.0 in
    let fault = c.in_err-differences.field-0.0 in
    let forbids = subst (λ g. ForbidsDifferences g order axis fault) c.view.ensures.same c.in_err-differences.ensures.err in
    passed-on (ForbidsDiff c.args.words.now) c.from_residual-in_err-differences.result c.in_err-differences.field-0.0 c.from_residual-in_err-differences.ensures.1 (inr (order, c.count.new.self, c.in_ok-order.ensures.read, inr (axis, c.in_ok-axis.table, c.in_ok-axis.ensures.read, forbids)))
