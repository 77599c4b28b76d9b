-- The positions that are taken are those of chunks, and so are the others.
use Rattle.std.proofs.Common.{◌≤◌, ap, sym, subst, ◌∙◌, length, take, drop}
use Rattle.std.specs.Prelude.{[], ◌∷◌, slice_index}
use Rattle.std.specs.Int.{div_ceil}
use Rattle.std.proofs.lemmas.List.{length-map, take-map, drop-map}
use Rattle.std.proofs.lemmas.List.Elements.{All-take, All-drop}
use Rattle.ndarray.specs.Index.{InBox}
use Rattle.ndarray.proofs.subviews.axis_chunks.AxisChunksIter.take_first.Goals as goal

pub returns-clause-first : goal.returns-clause-first
returns-clause-first g c =
    rw (c.again.ensures.same, c.take_first.ensures.first) (sym (take-map _ c.args.count c.self.inside.walk) ∙ ap (take c.args.count) c.self.view_is)

pub returns-clause-rest : goal.returns-clause-rest
returns-clause-rest g c =
    rw c.take_first.ensures.rest (sym (drop-map _ c.args.count c.self.inside.walk) ∙ ap (drop c.args.count) c.self.view_is)

pub take_first-requires : goal.take_first-requires
take_first-requires g c = subst (λ n. c.args.count ≤ n) (sym (ap length c.self.view_is) ∙ length-map c.self.inside.walk _) c.requires

pub invariant_of-result : goal.invariant_of-result
invariant_of-result g c =
    let i = c.self.invariant in
    let P = InBox (div_ceil (slice_index c.self.inside.view.lengths c.self.inside.axis) c.self.inside.size ∷ []) in
    rw (c.again.ensures.same, c.take_first.ensures.first) (record { bound = i.bound; positive = i.positive; within = All-take P c.args.count c.self.inside.walk i.within })

pub invariant_of-self : goal.invariant_of-self
invariant_of-self g c =
    let i = c.self.invariant in
    let P = InBox (div_ceil (slice_index c.self.inside.view.lengths c.self.inside.axis) c.self.inside.size ∷ []) in
    rw c.take_first.ensures.rest (record { bound = i.bound; positive = i.positive; within = All-drop P c.args.count c.self.inside.walk i.within })
