use Rattle.std.proofs.Common.{◌<◌, arith, subst, sym}
use Rattle.std.specs.Prelude.{[], ◌∷◌, slice_index, All}
use Rattle.std.specs.Int.{div_ceil}
use Rattle.std.proofs.lemmas.List.Elements.{All-head, All-tail}
use Rattle.ndarray.specs.Index.{InBox}
use Rattle.ndarray.proofs.boxes.Boxes.{InBox-get}
use Rattle.ndarray.proofs.subviews.axis_chunks.AxisChunksIterIterator.next.Goals as goal

pub invariant_of-self-2 : goal.invariant_of-self-2
invariant_of-self-2 g c =
    let i = c.self.invariant in
    let P = InBox (div_ceil (slice_index c.self.inside.view.lengths c.self.inside.axis) c.self.inside.size ∷ []) in
    record { bound = i.bound; positive = i.positive; within = All-tail P _ _ (subst (All P) c.in-Some.ensures.steps i.within) }

pub chunk-requires-clause-number : goal.chunk-requires-clause-number
chunk-requires-clause-number g c =
    let count = div_ceil (slice_index c.self.inside.view.lengths c.self.inside.axis) c.self.inside.size in
    let P = InBox (count ∷ []) in
    let first = All-head P _ _ (subst (All P) c.in-Some.ensures.steps c.self.invariant.within) in
    subst (λ i. i < count) (sym c.axis.ensures) (InBox-get (count ∷ []) c.in-Some.position.0 0 first (omega arith))
