use Rattle.std.proofs.Common.{◌∙◌}
use Rattle.ndarray.proofs.cells.Cells.{along-row_order}
use Rattle.ndarray.proofs.iter.elements_mut.ElementsBaseMut.new.Goals as goal

pub returns-clause-cells : goal.returns-clause-cells
returns-clause-cells g c = c.in_order.ensures.cells ∙ along-row_order c.args.v c.in_order.ensures.whole
