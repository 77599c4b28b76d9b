use Rattle.std.proofs.Common.{inl, inr}
use Rattle.std.specs.Prelude.{ℤ}
use Rattle.ndarray.specs.Grid.{Grid}
use Rattle.ndtables.specs.Convolving.{AreVectors, CanConvolveInFull}
use Rattle.ndtables.specs.Reducing.{ForbidsMaking}
use Rattle.ndtables.specs.Faults.{ForbidsConvFull}
use Rattle.ndtables.proofs.FaultsPassedOn.{of-seen, passed-on}
use Rattle.ndtables.proofs.command.conv_full.Goals as goal

pub returns-in_err-left-clause-err : goal.returns-in_err-left-clause-err
returns-in_err-left-clause-err c = passed-on (ForbidsConvFull c.args.words.now) c.from_residual.result c.in_err-left.field-0.0 c.from_residual.ensures.1 (inl c.in_err-left.ensures.err)

pub returns-in_err-sums-clause-err : goal.returns-in_err-sums-clause-err
returns-in_err-sums-clause-err c =
    passed-on (ForbidsConvFull c.args.words.now) c.from_residual-in_err-sums.result c.in_err-sums.field-0.0 c.from_residual-in_err-sums.ensures.1 (inr (c.in_ok-left.left, c.in_ok-left.right, c.in_ok-left.ensures.read, of-seen (λ (g h : Grid ℤ). ForbidsMaking (AreVectors g h) (CanConvolveInFull g h) c.in_err-sums.field-0.0) _ _ _ _ c.view.ensures.same c.view-2.ensures.same c.in_err-sums.ensures.err))
