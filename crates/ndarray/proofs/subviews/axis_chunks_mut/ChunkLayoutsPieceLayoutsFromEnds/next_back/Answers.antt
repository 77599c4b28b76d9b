-- The last position is that of a chunk, and so are those before it.
use Rattle.std.proofs.Common.{◌<◌, Some, subst, sym, arith}
use Rattle.std.specs.Prelude.{[], ◌∷◌, slice_index}
use Rattle.std.specs.Int.{div_ceil}
use Rattle.std.proofs.lemmas.List.Elements.{All-pop}
use Rattle.ndarray.specs.Index.{InBox}
use Rattle.ndarray.proofs.boxes.Boxes.{InBox-get}
use Rattle.ndarray.proofs.subviews.axis_chunks_mut.ChunkLayoutsPieceLayoutsFromEnds.next_back.Goals as goal

pub invariant_of-self-2 : goal.invariant_of-self-2
invariant_of-self-2 g c =
    let i = c.self.invariant in
    let P = InBox (div_ceil (slice_index (g.D.Lengths.numbers c.self.inside.layout.dim) c.self.inside.axis) c.self.inside.size ∷ []) in
    record { as_many = i.as_many; bound = i.bound; fits = i.fits; positive = i.positive; within = (All-pop P _ _ (Some _) c.in-Some.ensures.steps i.within).0 }

pub chunk-requires-clause-number : goal.chunk-requires-clause-number
chunk-requires-clause-number g c =
    let count = div_ceil (slice_index (g.D.Lengths.numbers c.self.inside.layout.dim) c.self.inside.axis) c.self.inside.size in
    let last = (All-pop (InBox (count ∷ [])) _ _ (Some _) c.in-Some.ensures.steps c.self.invariant.within).1 in
    subst (λ i. i < count) (sym c.axis.ensures) (InBox-get (count ∷ []) c.in-Some.position.0 0 last (omega arith))
