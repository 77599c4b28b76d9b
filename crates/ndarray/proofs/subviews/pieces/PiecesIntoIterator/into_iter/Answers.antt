use Rattle.std.proofs.Common.{ap, arith, length, map, subst, sym, ◌∙◌}
use Rattle.std.specs.Prelude.{All}
use Rattle.std.proofs.lemmas.Simd.{map-map}
use Rattle.ndarray.specs.Grid.{IsGrid}
use Rattle.ndarray.specs.Index.{row_order, size}
use Rattle.ndarray.specs.base.Places.{Reaches, grid_at, place}
use Rattle.ndarray.specs.base.Storage.{seen_at}
use Rattle.ndarray.specs.declared.base.shape.Order.TheVariants.{RowMajor}
use Rattle.ndarray.proofs.boxes.Orders.{box_in-within}
use Rattle.ndarray.proofs.boxes.Sizes.{size-le}
use Rattle.ndarray.proofs.cells.Cells.{array_by-whole}
use Rattle.ndarray.proofs.pieces.PieceRows.{places-reach}
use Rattle.ndarray.proofs.subviews.pieces.PiecesIntoIterator.into_iter.Goals as goal

pub invariant_of-result : goal.invariant_of-result
invariant_of-result g c =
    let t = c.self.inside in
    let ps = g.P.Lengths.numbers t.positions.dim in
    let ns = g.D.Lengths.numbers t.dim in
    let bs = g.D.Lengths.numbers t.strides in
    subst (All (λ p. Reaches ⊥ (seen_at t.storage) ns p bs)) (sym c.new.ensures)
    (places-reach (seen_at t.storage) ps t.positions.start (g.P.Lengths.numbers t.positions.strides) ns bs (row_order ps) c.self.invariant (box_in-within RowMajor ps))

pub returns : goal.returns
returns g c =
    let t = c.self.inside in
    let ps = g.P.Lengths.numbers t.positions.dim in
    let at = λ (p : _). grid_at (seen_at t.storage) (g.D.Lengths.numbers t.dim) p (g.D.Lengths.numbers t.strides) in
    let cells = ap (map at) c.new.ensures ∙ (map-map at (place t.positions.start (g.P.Lengths.numbers t.positions.strides)) (row_order ps) ∙ ap (λ v. v.cells) c.self.view_is) in
    let whole : IsGrid c.args.self = subst IsGrid c.self.view_is (array_by-whole _ _) in
    let l = ap length cells in
    let v = ap (λ v. size v.lengths) c.self.view_is in
    let s = size-le ps in
    let f = c.self.invariant.limit in
    record { into_iter_gives = (cells, omega (arith, l, whole, v, s, f)) }
