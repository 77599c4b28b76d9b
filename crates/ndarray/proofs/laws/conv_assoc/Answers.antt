use Rattle.ndarray.proofs.convolution.Full.{convolutions_associate}
use Rattle.ndarray.proofs.laws.conv_assoc.Goals as goal

pub returns : goal.returns
returns g c = convolutions_associate g.A.Valued.addition g.A.Valued.multiplication g.met.A.LinalgScalar.distributes g.met.A.LinalgScalar.absorbs
