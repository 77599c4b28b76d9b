use Rattle.std.proofs.Common.{inl, inr}
use Rattle.ndtables.specs.Adding.{ForbidsSums}
use Rattle.ndtables.specs.Faults.{ForbidsAdd}
use Rattle.ndtables.proofs.FaultsPassedOn.{of-seen, passed-on}
use Rattle.ndtables.proofs.command.add.Goals as goal

pub returns-in_err-left-clause-err : goal.returns-in_err-left-clause-err
returns-in_err-left-clause-err c = passed-on (ForbidsAdd c.args.words.now) c.from_residual.result c.in_err-left.field-0.0 c.from_residual.ensures.1 (inl c.in_err-left.ensures.err)

pub returns-in_err-sums-clause-err : goal.returns-in_err-sums-clause-err
returns-in_err-sums-clause-err c =
    passed-on (ForbidsAdd c.args.words.now) c.from_residual-in_err-sums.result c.in_err-sums.field-0.0 c.from_residual-in_err-sums.ensures.1 (inr (c.in_ok-left.left, c.in_ok-left.right, c.in_ok-left.ensures.read, of-seen (λ g h. ForbidsSums g h c.in_err-sums.field-0.0) _ _ _ _ c.view.ensures.same c.view-2.ensures.same c.in_err-sums.ensures.err))
