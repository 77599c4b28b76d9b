use Rattle.ndarray.proofs.algebra.Kroneckers.{kroneckers_associate, kroneckers_transpose}
use Rattle.ndarray.proofs.algebra.MatrixProducts.{mixed_products}
use Rattle.ndarray.proofs.laws.kron_mixed.Goals as goal

pub returns : goal.returns
returns g c = record {
  mixed = mixed_products g.A.Valued.addition g.A.Valued.multiplication g.met.A.LinalgScalar.distributes g.met.A.LinalgScalar.absorbs;
  associates = kroneckers_associate g.A.Valued.multiplication;
  transposes = kroneckers_transpose g.A.Valued.multiplication;
}
