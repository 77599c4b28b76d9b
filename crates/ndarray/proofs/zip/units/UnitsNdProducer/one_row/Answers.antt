use Rattle.std.proofs.Common.{◌∙◌, ap, sym, subst, length, IfSome, ◌≡◌}
use Rattle.ndarray.specs.Orders.{box_in}
use Rattle.ndarray.proofs.zip.units.UnitsNdProducer.one_row.Goals as goal

pub returns : goal.returns
returns g c = λ one p o form. c.repeat_n.ensures.count ∙ subst (λ r. IfSome r (λ n. n ≡ length (box_in o p.lists.lengths))) (ap (λ r. r.one) (sym c.rows.view_is)) form.1
