use Rattle.ndarray.proofs.runs.Rows.{YieldsInTurn-row}
use Rattle.ndarray.proofs.zip.index_lists.IndicesNdProducer.run_row.Goals as goal

pub returns-clause-gives : goal.returns-clause-gives
returns-clause-gives g c = λ p is form. YieldsInTurn-row p g.D.Dimension.pattern_numbers (λ rest. rest) is form.1 form.0
