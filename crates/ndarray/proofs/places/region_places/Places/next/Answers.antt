use Rattle.std.proofs.Common.{◌∙◌, ◌∷◌, ap, map, sym, zip}
use Rattle.std.specs.Prelude.{filter_map}
use Rattle.ndarray.specs.base.Slots.{held_at}
use Rattle.ndarray.specs.places.ElementPlaces.{places_of}
use Rattle.ndarray.proofs.moving.BorrowedCells.{lent_at-next, lent_at-rest, found-first}
use Rattle.ndarray.proofs.places.region_places.Places.next.Goals as goal

pub take-cell-requires : goal.take-cell-requires
take-cell-requires g c =
    let p = c.self.inside in
    lent_at-next (held_at p.region.slots) c.in-Some.place (places_of p.indexed) (places_of c.next.new.self) c.self.invariant (ap places_of c.in-Some.ensures)

pub invariant_of-self-2 : goal.invariant_of-self-2
invariant_of-self-2 g c =
    let p = c.self.inside in
    lent_at-rest (held_at p.region.slots) _ c.in-Some.place c.take-cell.ensures.rest (places_of p.indexed) (places_of c.next.new.self) c.take-cell.result.now c.self.invariant c.take-cell.ensures.value (ap places_of c.in-Some.ensures)

pub returns : goal.returns
returns g c =
    let p = c.self.inside in
    let at = held_at p.region.slots in
    let rest = c.next.new.self in
    sym (ap (λ s. s.items) c.self.view_is)
    ∙ (ap (λ items. zip (map (λ item. item.0) items) (filter_map at (places_of p.indexed))) c.in-Some.ensures
    ∙ ap (zip (g.D.Lengths.numbers c.in-Some.index ∷ map (λ item. item.0) rest)) (found-first at _ c.in-Some.place c.take-cell.ensures.rest (places_of p.indexed) (places_of rest) c.take-cell.result.now c.self.invariant c.take-cell.ensures.value (ap places_of c.in-Some.ensures)))
