use Rattle.ndarray.proofs.algebra.MatrixProducts.{products_transpose}
use Rattle.ndarray.proofs.laws.mat_transpose.Goals as goal

pub returns : goal.returns
returns g c = products_transpose g.A.Valued.addition g.A.Valued.multiplication g.met.A.LinalgScalar.distributes g.met.A.LinalgScalar.absorbs
