use Rattle.ndarray.proofs.algebra.Vectors.{inner_products-commute, matrices-change_sides}
use Rattle.ndarray.proofs.laws.dot_commutes.Goals as goal

pub returns : goal.returns
returns g c = record {
  commutes = inner_products-commute g.A.Valued.addition g.A.Valued.multiplication g.A.Valued.meaning;
  sides = matrices-change_sides g.A.Valued.addition g.A.Valued.multiplication g.met.A.LinalgScalar.distributes g.met.A.LinalgScalar.absorbs;
}
