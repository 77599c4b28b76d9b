use Rattle.std.proofs.Common.{ap, arith, length}
use Rattle.std.proofs.lemmas.List.{length-map}
use Rattle.std.proofs.lemmas.Slice.Zip.{length-zip}
use Rattle.std.specs.Prelude.{filter_map, map}
use Rattle.ndarray.specs.base.Slots.{held_at}
use Rattle.ndarray.specs.places.ElementPlaces.{places_of}
use Rattle.ndarray.proofs.moving.BorrowedCells.{length-lent_at}
use Rattle.ndarray.proofs.places.region_places.Places.len.Goals as goal

pub returns : goal.returns
returns g c =
    let p = c.self.inside in
    let at = held_at p.region.slots in
    let f = length-lent_at at (places_of p.indexed) c.self.invariant in
    let lists = length-map p.indexed (λ item. item.0) in
    let places = length-map p.indexed (λ item. item.1) in
    let z = length-zip (map (λ item. item.0) p.indexed) (filter_map at (places_of p.indexed)) in
    let same = ap (λ s. length s.items) c.self.view_is in
    let n = c.len.ensures in
    omega arith
