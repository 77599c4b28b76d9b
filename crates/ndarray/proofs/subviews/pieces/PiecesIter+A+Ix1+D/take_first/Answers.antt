-- The places that are taken are those of pieces, and so are the others.
use Rattle.std.proofs.Common.{ap, drop, length, subst, sym, take, ◌∙◌, ◌≤◌}
use Rattle.std.proofs.lemmas.List.{drop-map, length-map, take-map}
use Rattle.std.proofs.lemmas.List.Elements.{All-drop, All-take}
use Rattle.ndarray.specs.base.Places.{Reaches}
use Rattle.ndarray.specs.base.Storage.{seen_at}
use Rattle.ndarray.proofs.subviews.pieces.PiecesIter+A+Ix1+D.take_first.Goals as goal

pub take_first-requires : goal.take_first-requires
take_first-requires g c = subst (λ n. c.args.count ≤ n) (sym (ap length c.self.view_is) ∙ length-map _ _) c.requires

pub returns-clause-first : goal.returns-clause-first
returns-clause-first g c =
    rw (c.copied.ensures.value, c.copied-2.ensures.value, c.take_first.ensures.first) (sym (take-map _ c.args.count c.self.inside.places) ∙ ap (take c.args.count) c.self.view_is)

pub returns-clause-rest : goal.returns-clause-rest
returns-clause-rest g c = rw c.take_first.ensures.rest (sym (drop-map _ c.args.count c.self.inside.places) ∙ ap (drop c.args.count) c.self.view_is)

pub invariant_of-result : goal.invariant_of-result
invariant_of-result g c =
    let s = c.self.inside in
    rw (c.copied.ensures.value, c.copied-2.ensures.value, c.take_first.ensures.first)
    (All-take (λ p. Reaches ⊥ (seen_at s.storage) (g.D.Lengths.numbers s.dim) p (g.D.Lengths.numbers s.strides)) c.args.count s.places c.self.invariant)

pub invariant_of-self : goal.invariant_of-self
invariant_of-self g c =
    let s = c.self.inside in
    rw c.take_first.ensures.rest (All-drop (λ p. Reaches ⊥ (seen_at s.storage) (g.D.Lengths.numbers s.dim) p (g.D.Lengths.numbers s.strides)) c.args.count s.places c.self.invariant)
