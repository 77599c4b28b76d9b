use Rattle.std.proofs.Common.{subst, arith}
use Rattle.std.specs.Prelude.{All}
use Rattle.std.proofs.lemmas.List.Elements.{All-head, All-tail}
use Rattle.ndarray.specs.Index.{InBox}
use Rattle.ndarray.proofs.boxes.Boxes.{InBox-length}
use Rattle.ndarray.proofs.subviews.pieces_mut.EqualPieceLayoutsPieceLayouts.next.Goals as goal

pub place-requires : goal.place-requires
place-requires g c =
    let ps = g.P.Lengths.numbers c.self.inside.positions.dim in
    let h = subst (All (InBox ps)) c.in_ok-position.ensures.steps c.self.invariant.within in
    let l = InBox-length ps _ (All-head (InBox ps) _ _ h) in
    let m = c.self.invariant.as_many in
    omega arith

pub invariant_of-self-2 : goal.invariant_of-self-2
invariant_of-self-2 g c =
    let ps = g.P.Lengths.numbers c.self.inside.positions.dim in
    let h = subst (All (InBox ps)) c.in_ok-position.ensures.steps c.self.invariant.within in
    record { as_many = c.self.invariant.as_many; within = All-tail (InBox ps) _ _ h }
