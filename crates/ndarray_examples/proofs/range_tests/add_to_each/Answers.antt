use Rattle.ndarray.proofs.Common.{rules}
use Rattle.ndarray_examples.proofs.range_tests.add_to_each.Goals as goal

pub returns-then-not-add_scalar_fits-clause-when : goal.returns-then-not-add_scalar_fits-clause-when
returns-then-not-add_scalar_fits-clause-when g c = (λ off. absurd (search rules), λ can. c.if-not-add_scalar_fits.ensures.exact.1 (λ is x here. search (rules, can is x here)))
