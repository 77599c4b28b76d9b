use Rattle.std.proofs.Common.{◌∙◌, subst, sym}
use Rattle.ndarray.specs.zip.RowCells.{IsRepeated}
use Rattle.ndarray.proofs.runs.Rows.{YieldsInTurn-row}
use Rattle.ndarray.proofs.zip.views.ArrayViewRepeatsItems.same_row.Goals as goal

pub of-requires : goal.of-requires
of-requires g c = subst IsRepeated (sym c.into_strided.ensures) c.requires.same

pub returns-clause-gives : goal.returns-clause-gives
returns-clause-gives g c = λ p is form. YieldsInTurn-row p (λ x. x.now) (λ rest. rest) is form.1 (c.of.ensures ∙ (c.into_strided.ensures ∙ form.0))
