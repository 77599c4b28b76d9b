use Rattle.ndarray.proofs.algebra.MatrixProducts.{mixed-second}
use Rattle.ndarray.proofs.algebra.SeveralKroneckers.{kroneckers-of_all}
use Rattle.ndarray.proofs.laws.kron_mixed_all.Goals as goal

pub returns : goal.returns
returns g c = kroneckers-of_all g.A.Valued (mixed-second g.A.Valued.addition g.A.Valued.multiplication g.met.A.LinalgScalar.distributes g.met.A.LinalgScalar.absorbs)
