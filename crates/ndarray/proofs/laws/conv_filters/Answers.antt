use Rattle.ndarray.proofs.convolution.Filters.{filters_compose, valid_is_part}
use Rattle.ndarray.proofs.convolution.OneAxis.{array_filters_compose}
use Rattle.ndarray.proofs.laws.conv_filters.Goals as goal

pub returns-clause-part : goal.returns-clause-part
returns-clause-part g c = valid_is_part g.A.Valued.addition g.A.Valued.multiplication g.met.A.LinalgScalar.absorbs g.met.A.LinalgScalar.distributes

pub returns-clause-lists : goal.returns-clause-lists
returns-clause-lists g c = filters_compose g.A.Valued.addition g.A.Valued.multiplication g.met.A.LinalgScalar.absorbs g.met.A.LinalgScalar.distributes

pub returns-clause-arrays : goal.returns-clause-arrays
returns-clause-arrays g c = array_filters_compose g.A.Valued.addition g.A.Valued.multiplication g.met.A.LinalgScalar.absorbs g.met.A.LinalgScalar.distributes
