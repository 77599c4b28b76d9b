use Rattle.ndarray.proofs.Common.{◌≡◌, ◌+ℤ◌, subst, IfOk, Combines}
use Rattle.ndarray_examples.proofs.cell_sums.Goals as goal

pub returns-clause-sums : goal.returns-clause-sums
returns-clause-sums g c = subst (λ v. IfOk c.add.result (Combines v c.args.b.now (λ x y z. z ≡ x +ℤ y))) (c.in_ok-copy.ensures.same (λ x y e. e)) c.add.ensures.made
