use Rattle.std.proofs.Common.{◌↔◌, subst}
use Rattle.std.specs.Prelude.{IsTrue, not}
use Rattle.ndarray.specs.places.CellPlaces.{HasPassed}
use Rattle.ndarray.proofs.moving.CellPlaces.{passed-tells}
use Rattle.ndarray.proofs.places.cell_places.CellPlacesPlaceSequence.has_passed.Goals as goal

pub returns-in-Some : goal.returns-in-Some
returns-in-Some g c =
    let f = c.in-Some.ensures.value in
    let alone = c.in-Some.ensures.alone in
    subst (λ s. IsTrue (not c.is_to_come.result) ↔ HasPassed s c.args.place) c.self.view_is
    (passed-tells c.self.inside.map c.self.inside.walk (g.D.Lengths.numbers c.in-Some.index) c.args.place c.is_to_come.result f.0 f.1 alone c.is_to_come.ensures)
