use Rattle.ndarray.proofs.Common.{rules, fold}
use Rattle.std.proofs.Common.{bit_xor}
use Rattle.ndarray_examples.proofs.everyday.parities.Goals as goal

pub returns-clause-parities : goal.returns-clause-parities
returns-clause-parities g c = c.map_axis.ensures.values (fold bit_xor 0) (λ l r k. search (rules, k))
