use Rattle.ndarray.proofs.convolution.FiltersOnAxes.{filters-on_axes_compose}
use Rattle.ndarray.proofs.convolution.SeparableFilters.{filters-separate}
use Rattle.ndarray.proofs.laws.filters_compose.Goals as goal

pub returns : goal.returns
returns g c = record {
  compose = filters-on_axes_compose g.A.Valued.addition g.A.Valued.multiplication g.met.A.LinalgScalar.distributes g.met.A.LinalgScalar.absorbs;
  separate = filters-separate g.A.Valued.addition g.A.Valued.multiplication g.met.A.LinalgScalar.distributes g.met.A.LinalgScalar.absorbs;
}
