use Rattle.std.proofs.Common.{◌∙◌}
use Rattle.ndarray.proofs.runs.Rows.{YieldsInTurn-row}
use Rattle.ndarray.proofs.zip.views.ArrayViewNdProducer.run_row.Goals as goal

pub returns-clause-gives : goal.returns-clause-gives
returns-clause-gives g c = λ p is form. YieldsInTurn-row p (λ x. x.now) (λ rest. rest) is form.1 (c.into_strided.ensures ∙ form.0)
