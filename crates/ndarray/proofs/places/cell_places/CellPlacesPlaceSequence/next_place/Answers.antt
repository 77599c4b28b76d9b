use Rattle.std.proofs.Common.{◌≡◌, ◌⊎◌, ◌↔◌, Option, Some, ℕ, subst}
use Rattle.ndarray.specs.places.CellPlaces.{stepping, HasPassed}
use Rattle.ndarray.proofs.moving.CellPlaces.{once-rest, place-once, passed-more}
use Rattle.ndarray.proofs.places.cell_places.CellPlacesPlaceSequence.next_place.Goals as goal

pub invariant_of-self-2 : goal.invariant_of-self-2
invariant_of-self-2 g c = once-rest c.self.inside.map c.self.inside.walk c.next.new.self (g.D.Lengths.numbers c.in-Some.index) c.place.result c.in-Some.ensures.steps c.self.invariant c.place.ensures.value c.place.ensures.alone

pub returns-clause-once : goal.returns-clause-once
returns-clause-once g c = place-once c.self.inside.map c.self.inside.walk c.next.new.self (g.D.Lengths.numbers c.in-Some.index) c.place.result c.in-Some.ensures.steps c.self.invariant c.place.ensures.value c.place.ensures.alone

pub returns-clause-passed : goal.returns-clause-passed
returns-clause-passed g c =
    λ p.
    subst (λ s. HasPassed (stepping c.self.inside.map c.next.new.self) p ↔ (HasPassed s p ⊎ (◌≡◌ {A = Option ℕ} (Some c.place.result) (Some p)))) c.self.view_is
    (passed-more c.self.inside.map c.self.inside.walk c.next.new.self (g.D.Lengths.numbers c.in-Some.index) c.place.result c.in-Some.ensures.steps c.self.invariant c.place.ensures.value c.place.ensures.alone p)
