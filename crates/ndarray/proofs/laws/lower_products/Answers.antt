use Rattle.ndarray.proofs.algebra.MeetingTriangles.{lower-matrices_multiply}
use Rattle.ndarray.proofs.laws.lower_products.Goals as goal

pub returns : goal.returns
returns g c = lower-matrices_multiply g.A.Valued.addition g.A.Valued.multiplication g.met.A.LinalgScalar.absorbs
