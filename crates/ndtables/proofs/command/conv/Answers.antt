use Rattle.std.proofs.Common.{inl, inr}
use Rattle.std.specs.Prelude.{ℤ}
use Rattle.ndarray.specs.Grid.{Grid}
use Rattle.ndarray.specs.Subviews.{ArePositive}
use Rattle.ndtables.specs.Convolving.{CanConvolve}
use Rattle.ndtables.specs.Reducing.{ForbidsMaking}
use Rattle.ndtables.specs.Faults.{ForbidsConv}
use Rattle.ndtables.proofs.FaultsPassedOn.{of-seen, passed-on}
use Rattle.ndtables.proofs.command.conv.Goals as goal

pub returns-in_err-table-clause-err : goal.returns-in_err-table-clause-err
returns-in_err-table-clause-err c = passed-on (ForbidsConv c.args.words.now) c.from_residual.result c.in_err-table.field-0.0 c.from_residual.ensures.1 (inl c.in_err-table.ensures.err)

pub returns-in_err-sums-clause-err : goal.returns-in_err-sums-clause-err
returns-in_err-sums-clause-err c =
    passed-on (ForbidsConv c.args.words.now) c.from_residual-in_err-sums.result c.in_err-sums.field-0.0 c.from_residual-in_err-sums.ensures.1 (inr (c.in_ok-table.table, c.in_ok-table.kernel, c.in_ok-table.ensures.read, of-seen (λ (g h : Grid ℤ). ForbidsMaking (ArePositive g.lengths h.lengths) (CanConvolve g h) c.in_err-sums.field-0.0) _ _ _ _ c.view.ensures.same c.view-2.ensures.same c.in_err-sums.ensures.err))
