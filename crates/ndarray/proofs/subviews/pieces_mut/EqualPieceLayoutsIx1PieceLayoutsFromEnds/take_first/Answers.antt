-- The positions that are taken are those of pieces, and so are the others.
use Rattle.std.proofs.Common.{◌≤◌, sym, subst, ◌∙◌, ap, length, take, drop}
use Rattle.std.specs.List.{take-map, drop-map}
use Rattle.std.proofs.lemmas.List.{length-map}
use Rattle.std.proofs.lemmas.List.Elements.{All-take, All-drop}
use Rattle.ndarray.specs.Index.{InBox}
use Rattle.ndarray.proofs.subviews.pieces_mut.EqualPieceLayoutsIx1PieceLayoutsFromEnds.take_first.Goals as goal

pub take_first-requires : goal.take_first-requires
take_first-requires g c = subst (λ n. c.args.count ≤ n) (sym (ap length c.self.view_is) ∙ length-map c.self.inside.walk _) c.requires

pub returns-clause-first : goal.returns-clause-first
returns-clause-first g c =
    rw (c.copied.ensures.start, c.copied.ensures.strides, c.copied-2.ensures.value, c.copied-3.ensures.value, c.take_first.ensures.first)
    (sym (take-map _ c.args.count _) ∙ ap (take c.args.count) c.self.view_is)

pub returns-clause-rest : goal.returns-clause-rest
returns-clause-rest g c = rw c.take_first.ensures.rest (sym (drop-map _ c.args.count _) ∙ ap (drop c.args.count) c.self.view_is)

pub invariant_of-result : goal.invariant_of-result
invariant_of-result g c =
    let i = c.self.invariant in
    rw (c.copied.ensures.dim, c.copied.ensures.strides, c.take_first.ensures.first) (record { as_many = i.as_many; within = All-take (InBox c.self.inside.positions.dim.0) c.args.count c.self.inside.walk i.within })

pub invariant_of-self : goal.invariant_of-self
invariant_of-self g c =
    let i = c.self.invariant in
    rw c.take_first.ensures.rest (record { as_many = i.as_many; within = All-drop (InBox c.self.inside.positions.dim.0) c.args.count c.self.inside.walk i.within })
