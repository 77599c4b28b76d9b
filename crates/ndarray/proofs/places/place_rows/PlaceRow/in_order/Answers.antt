use Rattle.std.proofs.Common.{◌∙◌, ap, refl, sym}
use Rattle.ndarray.specs.base.Strided.{places_from}
use Rattle.ndarray.proofs.places.place_rows.PlaceRow.in_order.Goals as goal

pub returns : goal.returns
returns g c = ap (places_from c.args.layout.now.start 1) c.size.ensures ∙ sym (c.if-not-is_contiguous_in.ensures refl)
