use Rattle.ndarray.proofs.convolution.Full.{convolutions_commute, have_full_length}
use Rattle.ndarray.proofs.laws.conv_commutes.Goals as goal

pub returns-clause-length : goal.returns-clause-length
returns-clause-length g c = have_full_length g.A.Valued.addition g.A.Valued.multiplication g.met.A.LinalgScalar.distributes g.met.A.LinalgScalar.absorbs

pub returns-clause-commutes : goal.returns-clause-commutes
returns-clause-commutes g c = convolutions_commute g.A.Valued.addition g.A.Valued.multiplication g.met.A.LinalgScalar.distributes g.met.A.LinalgScalar.absorbs
