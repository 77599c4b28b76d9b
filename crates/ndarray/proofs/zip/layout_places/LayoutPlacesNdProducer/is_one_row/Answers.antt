use Rattle.std.proofs.Common.{◌∙◌, ap, is_some, sym}
use Rattle.ndarray.proofs.zip.layout_places.LayoutPlacesNdProducer.is_one_row.Goals as goal

pub returns : goal.returns
returns g c = λ yes. ap (λ r. is_some r.one) (sym c.rows.view_is) ∙ (sym c.is_some.ensures ∙ yes)
