use Rattle.std.proofs.Common.{◌∙◌, sym, ap}
use Rattle.ndarray.specs.zip.RowCells.{row_cells}
use Rattle.ndarray.proofs.runs.Rows.{YieldsInTurn-row_slice}
use Rattle.ndarray.proofs.zip.views.ArrayViewNdProducer.flat_row.Goals as goal

pub returns-clause-gives : goal.returns-clause-gives
returns-clause-gives g c = λ p is form. YieldsInTurn-row_slice p _ is form.1 (c.iter.ensures.rest ∙ (sym (ap row_cells c.in-Slice.is) ∙ form.0))
