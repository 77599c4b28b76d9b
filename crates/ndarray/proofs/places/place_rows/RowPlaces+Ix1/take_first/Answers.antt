-- The row comes first, and what it lacks is taken of the index lists behind it.
use Rattle.std.proofs.Common.{◌≡◌, ◌-◌, ◌∙◌, ap, arith, drop, length, length-append, min, take}
use Rattle.std.proofs.lemmas.List.{length-drop, length-map, length-take}
use Rattle.std.proofs.lemmas.List.Elements.{All-drop, All-take}
use Rattle.ndarray.specs.base.Places.{place}
use Rattle.ndarray.specs.places.ElementPlaces.{places_along}
use Rattle.ndarray.proofs.strides.PlaceParts.{places-take, places-drop}
use Rattle.ndarray.proofs.places.place_rows.RowPlaces+Ix1.take_first.Goals as goal

pub take_first-requires : goal.take_first-requires
take_first-requires c = let m = c.min-of_row.ensures in let l = c.len.ensures in omega arith

pub take_first-requires-2 : goal.take_first-requires-2
take_first-requires-2 c =
    let s = c.self.inside in
    let m = c.min-of_row.ensures in
    let l = c.len.ensures in
    let k = length-map s.walk (place s.layout.start s.layout.strides.0) in
    let a = length-append s.row (places_along s.layout.start s.layout.strides.0 s.walk) in
    let v = ap length c.self.view_is in
    let r = c.requires in
    omega arith

pub returns-clause-first : goal.returns-clause-first
returns-clause-first c =
    let s = c.self.inside in
    rw (c.take_first.ensures.first, c.take_first-2.ensures.first, c.copied.ensures.start, c.copied.ensures.strides)
    (places-take s.layout.start s.layout.strides.0 s.row s.walk c.args.count c.min-of_row.result (c.min-of_row.ensures ∙ ap (λ k. min c.args.count k) c.len.ensures) ∙ ap (take c.args.count) c.self.view_is)

pub returns-clause-rest : goal.returns-clause-rest
returns-clause-rest c =
    let s = c.self.inside in
    rw (c.take_first.ensures.rest, c.take_first-2.ensures.rest)
    (places-drop s.layout.start s.layout.strides.0 s.row s.walk c.args.count c.min-of_row.result (c.min-of_row.ensures ∙ ap (λ k. min c.args.count k) c.len.ensures) ∙ ap (drop c.args.count) c.self.view_is)

pub invariant_of-result : goal.invariant_of-result
invariant_of-result c =
    let s = c.self.inside in
    let n = c.args.count - c.min-of_row.result in
    let a = length-take c.min-of_row.result s.row in
    let b = length-take n s.walk in
    let f = c.self.invariant.1 in
    rw (c.take_first.ensures.first, c.take_first-2.ensures.first, c.copied.ensures.strides) (All-take (λ is. length s.layout.strides.0 ≡ length is) n s.walk c.self.invariant.0, omega arith)

pub invariant_of-self : goal.invariant_of-self
invariant_of-self c =
    let s = c.self.inside in
    let n = c.args.count - c.min-of_row.result in
    let a = length-drop c.min-of_row.result s.row in
    let b = length-drop n s.walk in
    let f = c.self.invariant.1 in
    rw (c.take_first.ensures.rest, c.take_first-2.ensures.rest) (All-drop (λ is. length s.layout.strides.0 ≡ length is) n s.walk c.self.invariant.0, omega arith)
