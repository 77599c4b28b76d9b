use Rattle.std.proofs.Common.{◌∙◌, sym, ap}
use Rattle.ndarray.specs.zip.RowCells.{row_cells_mut}
use Rattle.ndarray.proofs.runs.Rows.{YieldsInTurn-row_slice_mut}
use Rattle.ndarray.proofs.zip.views_mut.ArrayViewMutNdProducer.flat_row.Goals as goal

pub returns-clause-gives : goal.returns-clause-gives
returns-clause-gives g c = λ p is form. YieldsInTurn-row_slice_mut p _ is form.1 (c.iter_mut.ensures.rest ∙ (sym (ap row_cells_mut c.in-Slice.is) ∙ form.0))
