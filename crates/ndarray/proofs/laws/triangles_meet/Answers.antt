use Rattle.ndarray.proofs.algebra.MeetingTriangles.{lower-triangles_meet, triangles-commute, upper-triangles_meet}
use Rattle.ndarray.proofs.laws.triangles_meet.Goals as goal

pub returns : goal.returns
returns g c = record { upper = upper-triangles_meet; lower = lower-triangles_meet; commute = triangles-commute }
