use Rattle.std.proofs.Common.{rules}
use Rattle.ndarray.proofs.lists.Decisions.{says_yes}
use Rattle.ndarray.proofs.reduce.range_tests.checked_dot.Goals as goal

pub returns-in-Some-sum_of_small_products-clause-magnitudes : goal.returns-in-Some-sum_of_small_products-clause-magnitudes
returns-in-Some-sum_of_small_products-clause-magnitudes g c = says_yes _ (search rules, search (rules, c.in-Some-sum_of_small_products.ensures.magnitudes))
