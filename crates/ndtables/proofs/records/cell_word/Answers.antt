use Rattle.ndtables.proofs.NumberWords.{cell-text}
use Rattle.ndtables.proofs.records.cell_word.Goals as goal

pub returns-in_default-clause-err : goal.returns-in_default-clause-err
returns-in_default-clause-err c cell = c.in_default.ensures.cases.0 (cell-text c.args.field.now cell)
