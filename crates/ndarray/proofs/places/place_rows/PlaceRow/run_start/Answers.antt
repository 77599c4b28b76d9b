use Rattle.std.proofs.Common.{◌∙◌, ap, arith, length, sym}
use Rattle.ndarray.specs.base.Strided.{places_from}
use Rattle.ndarray.proofs.strides.Rows.{length-places_from}
use Rattle.ndarray.proofs.places.place_rows.PlaceRow.run_start.Goals as goal

pub returns : goal.returns
returns c =
    let r = c.self.inside in
    let l = sym (length-places_from r.place r.stride r.left) ∙ ap length c.self.view_is in
    (sym c.self.view_is ∙ (ap (λ s. places_from r.place s r.left) (omega arith) ∙ ap (places_from r.place 1) l), omega arith, omega arith)
