use Rattle.std.proofs.Common.{◌∙◌, ◌∷◌, ap, map, sym}
use Rattle.ndarray.specs.base.Masks.{grids_at}
use Rattle.ndarray.specs.base.Pieces.{piece_layouts}
use Rattle.ndarray.specs.base.Slots.{held_at}
use Rattle.ndarray.proofs.pieces.PieceRows.{piece-as_many}
use Rattle.ndarray.proofs.pieces.TakenPieces.{pieces-left, pieces-taken, row-shares}
use Rattle.ndarray.proofs.subviews.piece_rows.PieceRowsMutIterator.next.Goals as goal

pub along-requires : goal.along-requires
along-requires g c =
    let t = c.self.inside in
    piece-as_many t.positions.start (g.P.Lengths.numbers t.positions.strides) (g.D.Lengths.numbers t.dim) (g.D.Lengths.numbers t.strides) (held_at t.region.slots) (g.P.Lengths.numbers t.positions.dim)
    t.rows c.next.new.self (g.P.Lengths.numbers c.in-Some.row.first) c.in-Some.row.axis c.in-Some.row.count c.in-Some.ensures c.self.invariant

pub taken_from-requires : goal.taken_from-requires
taken_from-requires g c =
    let t = c.self.inside in
    let both = row-shares (held_at t.region.slots) t.positions.start (g.P.Lengths.numbers t.positions.strides) (g.D.Lengths.numbers t.dim) (g.D.Lengths.numbers t.strides) (g.P.Lengths.numbers t.positions.dim)
    t.rows c.next.new.self (g.P.Lengths.numbers c.in-Some.row.first) c.in-Some.row.axis c.in-Some.row.count c.in-Some.ensures c.self.invariant _ c.along.ensures _ _ c.copied.ensures.value c.copied-2.ensures.value in
    both.first

pub invariant_of-self-2 : goal.invariant_of-self-2
invariant_of-self-2 g c =
    let t = c.self.inside in
    pieces-left (held_at t.region.slots) t.positions.start (g.P.Lengths.numbers t.positions.strides) (g.D.Lengths.numbers t.dim) (g.D.Lengths.numbers t.strides) (g.P.Lengths.numbers t.positions.dim)
    t.rows c.next.new.self (g.P.Lengths.numbers c.in-Some.row.first) c.in-Some.row.axis c.in-Some.row.count c.in-Some.ensures c.self.invariant _ c.along.ensures _ _ c.copied.ensures.value c.copied-2.ensures.value
    _ c.taken_from.ensures.others

pub returns-clause-steps : goal.returns-clause-steps
returns-clause-steps g c =
    let t = c.self.inside in
    let taken = pieces-taken (held_at t.region.slots) t.positions.start (g.P.Lengths.numbers t.positions.strides) (g.D.Lengths.numbers t.dim) (g.D.Lengths.numbers t.strides) (g.P.Lengths.numbers t.positions.dim)
    t.rows c.next.new.self (g.P.Lengths.numbers c.in-Some.row.first) c.in-Some.row.axis c.in-Some.row.count c.in-Some.ensures c.self.invariant _ c.along.ensures _ _ c.copied.ensures.value c.copied-2.ensures.value
    (held_at c.taken_from.new.region.slots) c.taken_from.ensures.others in
    sym c.self.view_is
    ∙ (sym taken ∙ ap (λ x. x ∷ map (λ qs. grids_at (held_at c.taken_from.new.region.slots) (piece_layouts t.positions.start (g.P.Lengths.numbers t.positions.strides) (g.D.Lengths.numbers t.dim) (g.D.Lengths.numbers t.strides) qs)) c.next.new.self) (sym c.taken_from.ensures.value))
