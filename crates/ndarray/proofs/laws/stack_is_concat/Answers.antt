use Rattle.ndarray.proofs.algebra.Stacks.{stack_is_concat}
use Rattle.ndarray.proofs.laws.stack_is_concat.Goals as goal

pub returns : goal.returns
returns g c = stack_is_concat
