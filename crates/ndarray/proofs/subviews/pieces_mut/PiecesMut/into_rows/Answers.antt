use Rattle.std.proofs.Common.{◌≡◌, ◌∙◌, ap, map, subst, sym}
use Rattle.std.specs.Prelude.{filter_map}
use Rattle.ndarray.specs.Grid.{IsGrid, cell}
use Rattle.ndarray.specs.order.Rows.{rows_in}
use Rattle.ndarray.specs.base.Masks.{grids_at}
use Rattle.ndarray.specs.base.Pieces.{ShareRows, piece_layouts}
use Rattle.ndarray.specs.base.Slots.{held_at}
use Rattle.ndarray.proofs.cells.Cells.{array_by-whole}
use Rattle.ndarray.proofs.pieces.PieceRows.{ShareRows-all, piece-rows-found}
use Rattle.ndarray.proofs.subviews.pieces_mut.PiecesMut.into_rows.Goals as goal

rows-are : (g : _) (c : goal.After-new-rows g) → c.new-rows.result ≡ rows_in c.args.order (g.P.Lengths.numbers c.self.inside.positions.dim)
rows-are g c = c.new-rows.ensures ∙ ap (rows_in c.args.order) c.copied.ensures.value

pub invariant_of-result : goal.invariant_of-result
invariant_of-result g c =
    let t = c.self.inside in
    let ns = g.D.Lengths.numbers t.dim in
    let bs = g.D.Lengths.numbers t.strides in
    let ps = g.P.Lengths.numbers t.positions.dim in
    let steps = g.P.Lengths.numbers t.positions.strides in
    subst (ShareRows (held_at t.region.slots) ps t.positions.start steps ns bs) (sym (rows-are g c)) (ShareRows-all t.positions.start steps ns bs (held_at t.region.slots) ps c.args.order c.self.invariant)

pub returns-clause-rows : goal.returns-clause-rows
returns-clause-rows g c =
    let t = c.self.inside in
    let ns = g.D.Lengths.numbers t.dim in
    let bs = g.D.Lengths.numbers t.strides in
    let ps = g.P.Lengths.numbers t.positions.dim in
    let steps = g.P.Lengths.numbers t.positions.strides in
    ap (map (λ row. grids_at (held_at t.region.slots) (piece_layouts t.positions.start steps ns bs row))) (rows-are g c)
    ∙ (piece-rows-found t.positions.start steps ns bs (held_at t.region.slots) ps c.args.order ∙ ap (λ v. map (filter_map (cell v)) (rows_in c.args.order v.lengths)) c.self.view_is)

pub returns-clause-whole : goal.returns-clause-whole
returns-clause-whole g c = subst IsGrid c.self.view_is (array_by-whole _ _)
