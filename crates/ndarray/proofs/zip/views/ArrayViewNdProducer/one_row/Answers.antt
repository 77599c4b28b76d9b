use Rattle.std.proofs.Common.{◌≡◌, ◌∙◌, ap, option_copied, subst, sym, IfSome}
use Rattle.ndarray.specs.Orders.{cells_in}
use Rattle.ndarray.proofs.cells.Cells.{HasCells-box_in}
use Rattle.ndarray.proofs.runs.OneRows.{one-missing}
use Rattle.ndarray.proofs.zip.views.ArrayViewNdProducer.one_row.Goals as goal

pub returns-in-Some : goal.returns-in-Some
returns-in-Some g c = λ _ p o form. (subst (λ r. IfSome r (λ l. l ≡ cells_in o p)) (ap (λ r. r.one) (sym c.rows.view_is) ∙ ap option_copied c.in-Some.is) form.0.1, HasCells-box_in o p form.1)

pub returns : goal.returns
returns g c = λ one. absurd (one-missing (ap (λ r. r.one) (sym c.rows.view_is) ∙ ap option_copied c.in-None.is) one)
