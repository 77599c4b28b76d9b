use Rattle.std.proofs.Common.{◌∙◌, sym, ap}
use Rattle.ndarray.specs.zip.RowCells.{row_cells_mut}
use Rattle.ndarray.proofs.runs.Rows.{YieldsInTurn-row}
use Rattle.ndarray.proofs.zip.views_mut.ArrayViewMutNdProducer.run_row.Goals as goal

pub returns-in-Slice-clause-gives : goal.returns-in-Slice-clause-gives
returns-in-Slice-clause-gives g c = λ p is form. YieldsInTurn-row p (λ x. x.now) (λ rest. rest) is form.1 (c.over.ensures ∙ (sym (ap row_cells_mut c.in-Slice.is) ∙ form.0))

pub returns-in-Stepped-clause-gives : goal.returns-in-Stepped-clause-gives
returns-in-Stepped-clause-gives g c = λ p is form. YieldsInTurn-row p (λ x. x.now) (λ rest. rest) is form.1 (sym (ap row_cells_mut c.in-Stepped.is) ∙ form.0)
