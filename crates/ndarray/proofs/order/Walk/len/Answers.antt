use Rattle.std.proofs.Common.{ap, sym, ◌∙◌, length}
use Rattle.ndarray.proofs.boxes.Walks.{length-walk_rest}
use Rattle.ndarray.proofs.order.Walk.len.Goals as goal

pub returns : goal.returns
returns g c = sym (ap length (sym c.self.view_is) ∙ length-walk_rest _ _ _ _ c.self.invariant)
