use Rattle.std.proofs.Common.{ap, sym, ◌∙◌, length}
use Rattle.ndarray.proofs.strides.Reach.{length-cells_at}
use Rattle.ndarray.proofs.base.array.ArrayBase.len.Goals as goal

pub returns-clause-cells : goal.returns-clause-cells
returns-clause-cells g c = c.size.ensures ∙ (sym (length-cells_at _ _ _ _ c.self.invariant) ∙ ap (λ v. length v.cells) c.self.view_is)
