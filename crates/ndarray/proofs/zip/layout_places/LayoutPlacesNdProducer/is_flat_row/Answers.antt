use Rattle.std.proofs.Common.{◌≡◌, ◌∙◌, ap, length, sym}
use Rattle.std.proofs.lemmas.Bool.{eqb-true}
use Rattle.ndarray.specs.base.Strided.{places_from}
use Rattle.ndarray.proofs.strides.Rows.{length-places_from}
use Rattle.ndarray.proofs.zip.layout_places.LayoutPlacesNdProducer.is_flat_row.Goals as goal

pub returns : goal.returns
returns g c = λ yes.
    let r = c.row.inside in
    let one : r.stride ≡ 1 = eqb-true _ _ yes in
    (r.place, sym c.row.view_is ∙ (ap (λ s. places_from r.place s r.left) one ∙ ap (places_from r.place 1) (sym (length-places_from r.place r.stride r.left) ∙ ap length c.row.view_is)))
