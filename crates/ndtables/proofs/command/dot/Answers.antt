use Rattle.std.proofs.Common.{inl, inr}
use Rattle.ndtables.specs.Multiplying.{ForbidsProduct}
use Rattle.ndtables.specs.Faults.{ForbidsDot}
use Rattle.ndtables.proofs.FaultsPassedOn.{of-seen, passed-on}
use Rattle.ndtables.proofs.command.dot.Goals as goal

pub returns-in_err-left-clause-err : goal.returns-in_err-left-clause-err
returns-in_err-left-clause-err c = passed-on (ForbidsDot c.args.words.now) c.from_residual.result c.in_err-left.field-0.0 c.from_residual.ensures.1 (inl c.in_err-left.ensures.err)

pub returns-in_err-product-clause-err : goal.returns-in_err-product-clause-err
returns-in_err-product-clause-err c =
    passed-on (ForbidsDot c.args.words.now) c.from_residual-in_err-product.result c.in_err-product.field-0.0 c.from_residual-in_err-product.ensures.1 (inr (c.in_ok-left.left, c.in_ok-left.right, c.in_ok-left.ensures.read, of-seen (λ g h. ForbidsProduct g h c.in_err-product.field-0.0) _ _ _ _ c.view.ensures.same c.view-2.ensures.same c.in_err-product.ensures.err))
