use Rattle.std.proofs.Common.{sym, ◌∙◌}
use Rattle.ndtables.proofs.reducing.sum_in_range.Goals as goal

pub returns-else-sums_fit-clause-fits : goal.returns-else-sums_fit-clause-fits
returns-else-sums_fit-clause-fits g c =
    (λ h. absurd (cc), λ fit. sym c.if-sums_fit.false ∙ c.sums_fit.ensures.selections.1 fit)
