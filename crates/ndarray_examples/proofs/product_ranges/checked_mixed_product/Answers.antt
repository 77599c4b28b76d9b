use Rattle.ndarray.proofs.Common.{refl}
use Rattle.ndarray_examples.proofs.product_ranges.checked_mixed_product.Goals as goal

pub returns-clause-when : goal.returns-clause-when
returns-clause-when g c = (λ _. c.in_ok-fits.ensures.exact.0 c.if-not-fits.false, λ _. refl)
