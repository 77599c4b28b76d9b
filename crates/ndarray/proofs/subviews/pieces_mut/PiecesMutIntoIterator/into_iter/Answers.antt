use Rattle.std.proofs.Common.{◌∙◌, ◌≡◌, ap, length, arith, subst, sym}
use Rattle.std.specs.Prelude.{All}
use Rattle.ndarray.specs.Grid.{IsGrid}
use Rattle.ndarray.specs.Index.{InBox, row_order, size}
use Rattle.ndarray.specs.Orders.{cells_in}
use Rattle.ndarray.specs.base.Masks.{Shares, grids_at}
use Rattle.ndarray.specs.base.Slots.{held_at}
use Rattle.ndarray.specs.base.Pieces.{piece_layouts}
use Rattle.ndarray.specs.declared.base.shape.Order.TheVariants.{RowMajor}
use Rattle.ndarray.proofs.cells.Cells.{along-row_order, array_by-whole}
use Rattle.ndarray.proofs.boxes.Orders.{box_in-within}
use Rattle.ndarray.proofs.boxes.Sizes.{size-le}
use Rattle.ndarray.proofs.pieces.SomePieces.{pieces-share_in, pieces-in}
use Rattle.ndarray.proofs.subviews.pieces_mut.PiecesMutIntoIterator.into_iter.Goals as goal

walked : (g : _) (c : goal.After-new-walk g) → c.new-walk.result ≡ row_order (g.P.Lengths.numbers c.self.inside.positions.dim)
walked g c = c.new-walk.ensures.list ∙ ap row_order c.copied.ensures.value

pub invariant_of-result : goal.invariant_of-result
invariant_of-result g c =
    let ps = g.P.Lengths.numbers c.self.inside.positions.dim in
    record { as_many = c.self.invariant.as_many; within = subst (All (InBox ps)) (sym (walked g c)) (box_in-within RowMajor ps) }

pub invariant_of-result-2 : goal.invariant_of-result-2
invariant_of-result-2 g c =
    let t = c.self.inside in
    subst (λ ws. Shares (held_at t.region.slots) (piece_layouts t.positions.start (g.P.Lengths.numbers t.positions.strides) (g.D.Lengths.numbers t.dim) (g.D.Lengths.numbers t.strides) ws)) (sym (walked g c))
    (pieces-share_in (held_at t.region.slots) (g.P.Lengths.numbers t.positions.dim) t.positions.start (g.P.Lengths.numbers t.positions.strides) (g.D.Lengths.numbers t.dim) (g.D.Lengths.numbers t.strides) c.self.invariant RowMajor)

pub returns : goal.returns
returns g c =
    let t = c.self.inside in
    let whole : IsGrid c.args.self = subst IsGrid c.self.view_is (array_by-whole _ _) in
    let cells = ap (λ ws. grids_at (held_at t.region.slots) (piece_layouts t.positions.start (g.P.Lengths.numbers t.positions.strides) (g.D.Lengths.numbers t.dim) (g.D.Lengths.numbers t.strides) ws)) (walked g c)
    ∙ (pieces-in t.positions.start (g.P.Lengths.numbers t.positions.strides) (g.D.Lengths.numbers t.dim) (g.D.Lengths.numbers t.strides) (held_at t.region.slots) RowMajor (g.P.Lengths.numbers t.positions.dim)
    ∙ (ap (cells_in RowMajor) c.self.view_is ∙ along-row_order c.args.self whole)) in
    let l = ap length cells in
    let v = ap (λ v. size v.lengths) c.self.view_is in
    let s = size-le (g.P.Lengths.numbers t.positions.dim) in
    let f = c.self.invariant.limit in
    record { into_iter_gives = (cells, omega (arith, l, whole, v, s, f)) }
