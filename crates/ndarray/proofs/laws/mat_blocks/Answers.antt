use Rattle.ndarray.proofs.algebra.Blocks.{blocks-multiply, columns-multiply, rows-multiply, rows-of_products}
use Rattle.ndarray.proofs.laws.mat_blocks.Goals as goal

pub returns : goal.returns
returns g c =
    let plus = g.A.Valued.addition in
    let times = g.A.Valued.multiplication in
    record {
      blocks = blocks-multiply plus times;
      columns = columns-multiply plus times;
      rows = rows-multiply plus times;
      row = rows-of_products plus times;
    }
