use Rattle.ndarray.proofs.algebra.MatrixProducts.{products_associate}
use Rattle.ndarray.proofs.laws.mat_assoc.Goals as goal

pub returns : goal.returns
returns g c = products_associate g.A.Valued.addition g.A.Valued.multiplication g.met.A.LinalgScalar.distributes g.met.A.LinalgScalar.absorbs
