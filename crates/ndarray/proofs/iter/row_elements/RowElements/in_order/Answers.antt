use Rattle.std.proofs.Common.{◌∙◌, ap, filter_map, subst, sym}
use Rattle.ndarray.specs.Orders.{cells_in}
use Rattle.ndarray.specs.base.Storage.{seen_at}
use Rattle.ndarray.specs.base.Strided.{HaveElements}
use Rattle.ndarray.proofs.moving.BorrowedCells.{found-all, held-all}
use Rattle.ndarray.proofs.iter.row_elements.RowElements.in_order.Goals as goal

pub invariant_of-result : goal.invariant_of-result
invariant_of-result g c =
    let v = c.v.inside in
    let axes = g.D.Lengths.numbers in
    subst (HaveElements (seen_at v.storage)) (sym c.new.ensures) (held-all (seen_at v.storage) (axes v.layout.dim) v.layout.start (axes v.layout.strides) c.v.invariant c.args.order)

pub returns : goal.returns
returns g c =
    let v = c.v.inside in
    let axes = g.D.Lengths.numbers in
    ap (filter_map (seen_at v.storage)) c.new.ensures ∙ (found-all (seen_at v.storage) (axes v.layout.dim) v.layout.start (axes v.layout.strides) c.v.invariant c.args.order ∙ ap (cells_in c.args.order) c.v.view_is)
