use Rattle.std.proofs.Common.{ap, map, sym, ◌∙◌, ◌∷◌}
use Rattle.ndarray.specs.base.Places.{grid_at}
use Rattle.ndarray.specs.base.Storage.{seen_at}
use Rattle.ndarray.proofs.pieces.PieceRows.{reach-first}
use Rattle.ndarray.proofs.subviews.pieces.PiecesIterIterator.next.Goals as goal

pub piece_at-requires : goal.piece_at-requires
piece_at-requires g c =
    let s = c.self.inside in
    (reach-first (seen_at s.storage) (g.D.Lengths.numbers s.dim) (g.D.Lengths.numbers s.strides) s.places c.next.new.self c.in-Some.start c.in-Some.ensures c.self.invariant).0

pub invariant_of-self-2 : goal.invariant_of-self-2
invariant_of-self-2 g c =
    let s = c.self.inside in
    (reach-first (seen_at s.storage) (g.D.Lengths.numbers s.dim) (g.D.Lengths.numbers s.strides) s.places c.next.new.self c.in-Some.start c.in-Some.ensures c.self.invariant).1

pub returns-clause-steps : goal.returns-clause-steps
returns-clause-steps g c =
    let s = c.self.inside in
    let at = λ (p : _). grid_at (seen_at s.storage) (g.D.Lengths.numbers s.dim) p (g.D.Lengths.numbers s.strides) in
    sym c.self.view_is ∙ (ap (map at) c.in-Some.ensures ∙ ap (λ x. x ∷ map at c.next.new.self) (sym c.piece_at.ensures))
