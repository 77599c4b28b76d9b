use Rattle.ndarray.proofs.algebra.KroneckerIdentities.{kronecker-of_identities, one-neutral}
use Rattle.ndarray.proofs.laws.kron_identity.Goals as goal

pub returns : goal.returns
returns g c = record {
  identities = kronecker-of_identities g.A.Valued.addition g.A.Valued.multiplication g.met.A.LinalgScalar.absorbs;
  one = one-neutral g.A.Valued.addition g.A.Valued.multiplication g.met.A.LinalgScalar.absorbs;
}
