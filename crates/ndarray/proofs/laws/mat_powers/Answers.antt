use Rattle.ndarray.proofs.callers.MatrixPowers.{identity-neutral, powers-add}
use Rattle.ndarray.proofs.laws.mat_powers.Goals as goal

pub returns : goal.returns
returns g c = record {
  identity = identity-neutral g.A.Valued g.met.A.LinalgScalar.distributes g.met.A.LinalgScalar.absorbs;
  adds = powers-add g.A.Valued g.met.A.LinalgScalar.distributes g.met.A.LinalgScalar.absorbs;
}
