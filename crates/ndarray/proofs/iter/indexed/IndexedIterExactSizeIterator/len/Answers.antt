use Rattle.std.proofs.Common.{ap, arith, length}
use Rattle.std.proofs.lemmas.List.{length-map}
use Rattle.std.proofs.lemmas.Slice.Zip.{length-zip}
use Rattle.std.specs.Prelude.{filter_map, map}
use Rattle.ndarray.specs.base.Storage.{seen_at}
use Rattle.ndarray.specs.places.ElementPlaces.{places_of}
use Rattle.ndarray.proofs.moving.BorrowedCells.{length-held_at}
use Rattle.ndarray.proofs.iter.indexed.IndexedIterExactSizeIterator.len.Goals as goal

pub returns-clause-value : goal.returns-clause-value
returns-clause-value g c =
    let s = c.self.inside in
    let at = seen_at s.storage in
    let f = length-held_at at (places_of s.indexed) c.self.invariant in
    let lists = length-map s.indexed (λ item. item.0) in
    let places = length-map s.indexed (λ item. item.1) in
    let z = length-zip (map (λ item. item.0) s.indexed) (filter_map at (places_of s.indexed)) in
    let same = ap length c.self.view_is in
    let n = c.len.ensures.value in
    omega arith
