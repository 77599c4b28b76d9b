use Rattle.ndarray.proofs.algebra.MatrixSums.{multiples-times_matrix, products-of_multiples, products-of_sums, sums-times_matrix}
use Rattle.ndarray.proofs.laws.mat_distributes.Goals as goal

pub returns : goal.returns
returns g c =
    let plus = g.A.Valued.addition in
    let times = g.A.Valued.multiplication in
    let distributes = g.met.A.LinalgScalar.distributes in
    let absorbs = g.met.A.LinalgScalar.absorbs in
    record {
      of_sums = products-of_sums plus times distributes absorbs;
      sums = sums-times_matrix plus times distributes absorbs;
      of_multiples = products-of_multiples plus times distributes absorbs;
      multiples = multiples-times_matrix plus times distributes absorbs;
    }
