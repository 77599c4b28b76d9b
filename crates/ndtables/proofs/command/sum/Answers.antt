use Rattle.std.proofs.Common.{◌≡◌, None, inr, subst, sym}
use Rattle.std.specs.Prelude.{IsSome}
use Rattle.std.proofs.lemmas.Result.{err_from_is_err_and}
use Rattle.ndtables.specs.Reducing.{SumsFit}
use Rattle.ndtables.specs.declared.fault.Fault.TheVariants.{Range}
use Rattle.ndtables.proofs.command.sum.Goals as goal

pub returns-in_err-total-clause-err : goal.returns-in_err-total-clause-err
returns-in_err-total-clause-err c =
    let p = err_from_is_err_and c.from_residual-in_err-total.result c.from_residual-in_err-total.ensures.1 in
    let none : c.sum_in_range.result ≡ None = c.in_err-total.ensures.ok_part in
    let value = rw none at c.in_err-total.ensures.value in
    let range : c.in_err-total.field-0.0 ≡ Range = cc in
    let not : SumsFit c.in_ok-table.table.cells → ⊥ = λ fit.
    let found : IsSome c.sum_in_range.result = c.sum_in_range.ensures.fits.1 (subst (λ g. SumsFit g.cells) (sym c.view.ensures.same) fit) in
    let no_value = rw none at found in
    absurd (cc) in
    rw (p.1, p.2, range) (inr (c.in_ok-table.table, c.in_ok-table.ensures.read, (tt, not)))
