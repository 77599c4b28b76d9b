use Rattle.std.proofs.Common.{◌≡◌, ◌<◌, length, sym, ◌∙◌, ap, arith, subst, filter_map, slice_get}
use Rattle.std.specs.Prelude.{All}
use Rattle.ndarray.specs.places.CellPlaces.{places_ahead, HasPassed}
use Rattle.ndarray.proofs.boxes.Sizes.{size-le}
use Rattle.ndarray.proofs.moving.CellPlaces.{none-passed, cells-along, places-within}
use Rattle.ndarray.proofs.iter.into_iter.ArrayIntoIterator.into_iter.Goals as goal

pub new-requires-in-Err-clause-within : goal.new-requires-in-Err-clause-within
new-requires-in-Err-clause-within g c =
    let e = c.into_storage-items.ensures in
    subst (λ s. All (λ p. p < length c.into_storage-items.result.0.items) (places_ahead s)) (sym c.new.ensures)
    (places-within c.in-Err.array c.into_storage-items.result.0.items c.into_storage-items.result.1 e.whole e.lengths e.cells)

pub new-requires-in-Err-clause-begins : goal.new-requires-in-Err-clause-begins
new-requires-in-Err-clause-begins g c = λ p h. none-passed c.into_storage-items.result.1 p (subst (λ s. HasPassed s p) c.new.ensures h)

pub returns-in-Err : goal.returns-in-Err
returns-in-Err g c =
    let e = c.into_storage-items.ensures in
    let b = c.in-Err.array in
    let same : c.new-in-Err.result ≡ b.cells = c.new-in-Err.ensures ∙ (ap (λ s. filter_map (slice_get c.into_storage-items.result.0.items) (places_ahead s)) c.new.ensures ∙ cells-along b c.into_storage-items.result.0.items c.into_storage-items.result.1 e.whole e.lengths e.cells) in
    let l = ap length same in
    let s = size-le b.lengths in
    let w = e.whole in
    let m = e.limit in
    record { into_iter_gives = (same ∙ ap (λ a. a.cells) c.in-Err.ensures.back, omega (arith, l, s, w, m)) }
