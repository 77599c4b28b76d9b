use Rattle.ndarray.proofs.Common.{rules, max}
use Rattle.ndarray_examples.proofs.everyday.greatest_along.Goals as goal

pub returns-clause-maxima : goal.returns-clause-maxima
returns-clause-maxima g c = c.fold_axis.ensures.values max (λ p q r k. search (rules, k))
