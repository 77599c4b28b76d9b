use Rattle.std.proofs.Common.{◌++◌, ◌∙◌, ap, replicate}
use Rattle.ndarray.proofs.cells.Cells.{cells-alike}
use Rattle.ndarray.proofs.base.array.ArrayBase.zeros.Goals as goal

pub returns-clause-cells : goal.returns-clause-cells
returns-clause-cells g c =
    cells-alike g.A.Zero.zero c.size-size.result c.push_zeros.new.self.order c.finish.result c.finish.ensures.whole
    (c.finish.ensures.list ∙ (ap (λ f. f.cells) c.push_zeros.ensures ∙ ap (λ f. f.cells ++ replicate c.size-size.result g.A.Zero.zero) c.in_ok-builder.ensures.room))
