-- The last position is that of a piece, and so are those before it.
use Rattle.std.proofs.Common.{Some}
use Rattle.std.proofs.lemmas.List.Elements.{All-pop}
use Rattle.ndarray.specs.Index.{InBox}
use Rattle.ndarray.proofs.subviews.pieces_mut.EqualPieceLayoutsIx1PieceLayoutsFromEnds.next_back.Goals as goal

pub invariant_of-self-2 : goal.invariant_of-self-2
invariant_of-self-2 g c =
    let i = c.self.invariant in
    record { as_many = i.as_many; within = (All-pop (InBox _) _ _ (Some _) c.in-Some.ensures.steps i.within).0 }
