use Rattle.ndarray.proofs.algebra.JoinedParts.{items-of_stack, parts-can_be_joined, parts-join}
use Rattle.ndarray.proofs.laws.parts_join.Goals as goal

pub returns : goal.returns
returns g c = record { joined = parts-join; allowed = parts-can_be_joined; items = items-of_stack }
