use Rattle.ndarray.proofs.convolution.LinearFilters.{filters-by_multiples, filters-by_one_cell, filters-by_sums, filters-of_multiples, filters-of_sums}
use Rattle.ndarray.proofs.laws.filters_add.Goals as goal

pub returns : goal.returns
returns g c = record {
  of_sums = filters-of_sums g.A.Valued.addition g.A.Valued.multiplication g.A.Valued.meaning g.met.A.LinalgScalar.distributes g.met.A.LinalgScalar.absorbs;
  by_sums = filters-by_sums g.A.Valued.addition g.A.Valued.multiplication g.A.Valued.meaning g.met.A.LinalgScalar.distributes g.met.A.LinalgScalar.absorbs;
  of_multiples = filters-of_multiples g.A.Valued.addition g.A.Valued.multiplication g.A.Valued.meaning g.met.A.LinalgScalar.distributes g.met.A.LinalgScalar.absorbs;
  by_multiples = filters-by_multiples g.A.Valued.addition g.A.Valued.multiplication g.A.Valued.meaning g.met.A.LinalgScalar.distributes g.met.A.LinalgScalar.absorbs;
  by_one_cell = filters-by_one_cell g.A.Valued.addition g.A.Valued.multiplication g.A.Valued.meaning g.met.A.LinalgScalar.distributes g.met.A.LinalgScalar.absorbs;
}
