use Rattle.std.proofs.Common.{Some, [], ap, length, length-append, map, rules, sym, ◌++◌, ◌∙◌, ◌∷◌}
use Rattle.std.proofs.lemmas.List.{map-append}
use Rattle.std.proofs.lemmas.List.Elements.{All-pop}
use Rattle.ndarray.specs.base.Places.{Reaches, grid_at}
use Rattle.ndarray.specs.base.Storage.{seen_at}
use Rattle.ndarray.proofs.subviews.pieces.PiecesIterIx1DoubleEndedIterator.next_back.Goals as goal

pub piece_at-requires : goal.piece_at-requires
piece_at-requires g c =
    let s = c.self.inside in
    (All-pop (λ p. Reaches ⊥ (seen_at s.storage) (g.D.Lengths.numbers s.dim) p (g.D.Lengths.numbers s.strides)) _ _ (Some _) c.in-Some.ensures c.self.invariant).1

pub invariant_of-self-2 : goal.invariant_of-self-2
invariant_of-self-2 g c =
    let s = c.self.inside in
    (All-pop (λ p. Reaches ⊥ (seen_at s.storage) (g.D.Lengths.numbers s.dim) p (g.D.Lengths.numbers s.strides)) _ _ (Some _) c.in-Some.ensures c.self.invariant).0

pub returns-clause-steps : goal.returns-clause-steps
returns-clause-steps g c =
    let s = c.self.inside in
    let at = λ (p : _). grid_at (seen_at s.storage) (g.D.Lengths.numbers s.dim) p (g.D.Lengths.numbers s.strides) in
    sym c.self.view_is
    ∙ (ap (map at) c.in-Some.ensures ∙ (map-append at c.next_back.new.self (c.in-Some.start ∷ []) ∙ ap (λ x. map at c.next_back.new.self ++ x ∷ []) (sym c.piece_at.ensures)))

pub returns-clause-goes : goal.returns-clause-goes
returns-clause-goes g c = let e = ap length (returns-clause-steps g c) in search (rules, length-append)
