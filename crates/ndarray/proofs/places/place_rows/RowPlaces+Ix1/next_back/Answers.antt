use Rattle.std.proofs.Common.{◌++◌, ◌∷◌, [], sym, ap, ◌∙◌, arith, length, length-append, append_assoc}
use Rattle.ndarray.specs.base.Places.{place}
use Rattle.ndarray.specs.places.ElementPlaces.{places_along}
use Rattle.ndarray.proofs.strides.Rows.{places-last, beginning-as_many}
use Rattle.ndarray.proofs.places.place_rows.RowPlaces+Ix1.next_back.Goals as goal

pub invariant_of-self : goal.invariant_of-self
invariant_of-self c =
    let s = c.self.inside in
    let e = ap length c.in-Some.ensures.steps in
    let a = length-append c.next_back.new.self (c.in-Some.index.0 ∷ []) in
    let b = c.self.invariant.1 in
    (beginning-as_many s.layout.start s.layout.strides.0 s.walk c.next_back.new.self c.in-Some.index.0 c.in-Some.ensures.steps c.self.invariant.0, omega arith)

pub returns-in-Some : goal.returns-in-Some
returns-in-Some c =
    let s = c.self.inside in
    sym c.self.view_is
    ∙ (ap (λ l. s.row ++ l) (places-last s.layout.start s.layout.strides.0 s.walk c.next_back.new.self c.in-Some.index.0 c.in-Some.ensures.steps)
    ∙ (sym (append_assoc s.row (places_along s.layout.start s.layout.strides.0 c.next_back.new.self) (place s.layout.start s.layout.strides.0 c.in-Some.index.0 ∷ []))
    ∙ ap (λ p. (s.row ++ places_along s.layout.start s.layout.strides.0 c.next_back.new.self) ++ p ∷ []) (sym c.place.ensures)))
