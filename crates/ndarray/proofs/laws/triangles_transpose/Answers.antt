use Rattle.ndarray.proofs.algebra.TransposedTriangles.{lower-triangles_transpose, upper-triangles_transpose}
use Rattle.ndarray.proofs.laws.triangles_transpose.Goals as goal

pub returns : goal.returns
returns g c = record { upper = upper-triangles_transpose; lower = lower-triangles_transpose }
