use Rattle.std.proofs.Common.{refl, arith}
use Rattle.ndarray.proofs.base.strided.ArrayView+A+D.no_cells.Goals as goal

pub invariant_of-result : goal.invariant_of-result
invariant_of-result g c = λ k d lt. absurd (omega arith)

pub returns : goal.returns
returns g c = refl
