use Rattle.ndarray.proofs.moving.MovedOut.{holds-next, found-next}
use Rattle.std.proofs.Common.{ℕ, ◌∷◌, List, Option, sym, subst, ap, ◌∙◌}
use Rattle.ndarray.specs.places.Moving.{found, HoldsAllButPassed}
use Rattle.ndarray.proofs.places.move_out.MoveOut.next.Goals as goal

pub invariant_of-self-2 : goal.invariant_of-self-2
invariant_of-self-2 g c =
    let w = g.W.PlaceSequence in let old = c.self.inside in let places = w.to_come c.next_place.new.self in
    subst (HoldsAllButPassed (w.passed c.next_place.new.self) places) (sym c.take.ensures.slots)
    (holds-next (w.passed old.way) (w.passed c.next_place.new.self) c.in-Some.place places old.left (subst (λ (l : List ℕ). HoldsAllButPassed (w.passed old.way) l old.left) c.in-Some.ensures.rest c.self.invariant) c.in-Some.ensures.once c.in-Some.ensures.passed)

pub returns : goal.returns
returns g c =
    let w = g.W.PlaceSequence in let old = c.self.inside in let places = w.to_come c.next_place.new.self in
    sym c.self.view_is ∙ ap (found old.left) c.in-Some.ensures.rest
    ∙ found-next old.left c.in-Some.place places c.take.result c.take.ensures.value c.in-Some.ensures.once
    ∙ ap (λ (cs : List (Option g.row.A.Denot)). c.take.result ∷ found cs places) (sym c.take.ensures.slots)

pub returns-in_default : goal.returns-in_default
returns-in_default g c = let none = rw c.in_default.is at c.next_place.ensures.rest in (sym c.self.view_is ∙ ap (found c.self.inside.left) none.0, ap (found c.self.inside.left) none.1)
