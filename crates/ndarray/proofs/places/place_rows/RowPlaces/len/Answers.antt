use Rattle.std.proofs.Common.{ap, length, arith, length-append}
use Rattle.std.proofs.lemmas.List.{length-map}
use Rattle.ndarray.specs.base.Places.{place}
use Rattle.ndarray.specs.places.ElementPlaces.{places_along}
use Rattle.ndarray.proofs.places.place_rows.RowPlaces.len.Goals as goal

pub overflow_add-result : goal.overflow_add-result
overflow_add-result g c = let b = c.self.invariant.1 in omega arith

pub returns-clause-value : goal.returns-clause-value
returns-clause-value g c =
    let s = c.self.inside in
    let bs = g.D.Lengths.numbers s.layout.strides in
    let m = length-map s.walk (place s.layout.start bs) in
    let a = length-append s.row (places_along s.layout.start bs s.walk) in
    let v = ap length c.self.view_is in
    omega arith

pub returns-clause-fits : goal.returns-clause-fits
returns-clause-fits g c = let b = c.self.invariant.1 in omega arith
