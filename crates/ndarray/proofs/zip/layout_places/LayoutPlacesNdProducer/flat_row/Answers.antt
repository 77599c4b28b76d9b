use Rattle.std.proofs.Common.{◌∙◌, ap, length, sym}
use Rattle.ndarray.specs.base.Places.{place}
use Rattle.ndarray.specs.base.Strided.{places_from}
use Rattle.ndarray.proofs.runs.Rows.{YieldsInTurn-places}
use Rattle.ndarray.proofs.strides.Rows.{length-places_from}
use Rattle.ndarray.proofs.strides.SideBySide.{from-first}
use Rattle.ndarray.proofs.zip.layout_places.LayoutPlacesNdProducer.flat_row.Goals as goal

pub returns-clause-gives : goal.returns-clause-gives
returns-clause-gives g c = λ p is form.
    let r = c.row.inside in
    let flat = c.requires.flat in
    let same = from-first r.left r.place r.stride flat.0 (c.row.view_is ∙ (flat.1 ∙ ap (places_from flat.0 1) (ap length (sym c.row.view_is) ∙ length-places_from r.place r.stride r.left))) in
    YieldsInTurn-places (λ rest. rest) (place p.layout.start (g.D.Lengths.numbers p.layout.strides)) is (same ∙ (c.row.view_is ∙ form))
