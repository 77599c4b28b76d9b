use Rattle.std.proofs.Common.{sym, ◌∙◌, ap, length}
use Rattle.ndarray.proofs.strides.Rows.{length-step_index}
use Rattle.ndarray.proofs.base.strided.Strided.len.Goals as goal

pub returns : goal.returns
returns g c = sym (length-step_index _ _ _ _ c.self.invariant) ∙ ap length c.self.view_is
