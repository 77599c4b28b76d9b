use Rattle.std.proofs.Common.{◌≡◌, ◌∙◌, IfSome, IsSome, ap, subst, sym}
use Rattle.ndarray.specs.Orders.{box_in}
use Rattle.ndarray.specs.places.ElementPlaces.{places_along}
use Rattle.ndarray.proofs.runs.OneRows.{one-matches}
use Rattle.ndarray.proofs.zip.layout_places.LayoutPlacesNdProducer.one_row.Goals as goal

pub returns : goal.returns
returns g c = λ one.
    let same = ap (λ r. r.one) (sym c.rows.view_is) in
    one-matches c.rows.inside.one (subst IsSome same one) (λ row e p o form. subst (λ r. IfSome r (λ ps. ps ≡ places_along p.layout.start (g.D.Lengths.numbers p.layout.strides) (box_in o (g.D.Lengths.numbers p.layout.dim)))) (same ∙ e) form.1)
