use Rattle.ndarray.proofs.algebra.Triangles.{triangle_sums, triangles_part}
use Rattle.ndarray.proofs.laws.triangles_part.Goals as goal

pub returns-clause-cells : goal.returns-clause-cells
returns-clause-cells g c = triangles_part

pub returns-clause-totals : goal.returns-clause-totals
returns-clause-totals g c = triangle_sums g.A.Valued.addition g.A.Valued.meaning
