use Rattle.std.proofs.Common.{◌∙◌, ap, arith, length, subst, sym, filter_map}
use Rattle.ndarray.specs.Grid.{IsGrid}
use Rattle.ndarray.specs.Limits.{IsWithinLimit}
use Rattle.ndarray.specs.Orders.{HasInOrder, box_in, cells_in}
use Rattle.ndarray.specs.base.Slots.{held_at}
use Rattle.ndarray.specs.places.ElementPlaces.{AreDistinctPlaces}
use Rattle.ndarray.proofs.cells.Cells.{cells_in-HasInOrder, length-along}
use Rattle.ndarray.proofs.moving.BorrowedCells.{AreDistinctPlaces-all, found-all}
use Rattle.ndarray.proofs.boxes.Orders.{box_in-within, length-box_in}
use Rattle.ndarray.proofs.strides.Reach.{length-cells_at}
use Rattle.ndarray.proofs.boxes.Sizes.{size-le}
use Rattle.ndarray.proofs.iter.elements_mut.ElementsBaseMut.in_order.Goals as goal

pub invariant_of-result : goal.invariant_of-result
invariant_of-result g c =
    let axes = g.D.Lengths.numbers in
    let a = c.v.inside in
    subst (AreDistinctPlaces (held_at a.storage.slots)) (sym c.new.ensures) (AreDistinctPlaces-all (held_at a.storage.slots) (axes a.layout.dim) a.layout.start (axes a.layout.strides) c.v.invariant c.args.order)

pub returns-clause-cells : goal.returns-clause-cells
returns-clause-cells g c =
    let axes = g.D.Lengths.numbers in
    let a = c.v.inside in
    ap (filter_map (held_at a.storage.slots)) c.new.ensures
    ∙ (found-all (held_at a.storage.slots) (axes a.layout.dim) a.layout.start (axes a.layout.strides) c.v.invariant c.args.order
    ∙ ap (cells_in c.args.order) c.v.view_is)

pub returns-clause-whole : goal.returns-clause-whole
returns-clause-whole g c = subst IsGrid c.v.view_is (length-cells_at _ _ _ _ c.v.invariant)

pub returns-clause-described : goal.returns-clause-described
returns-clause-described g c =
    let v = c.args.v in
    let o = c.args.order in
    subst (HasInOrder o v) (sym (returns-clause-cells g c)) (cells_in-HasInOrder o v (returns-clause-whole g c))

pub returns-clause-fits : goal.returns-clause-fits
returns-clause-fits g c =
    let v = c.args.v in
    let e = ap length (returns-clause-cells g c) in
    let k = length-along v (returns-clause-whole g c) (box_in c.args.order v.lengths) (box_in-within c.args.order v.lengths) in
    let n = length-box_in c.args.order v.lengths in
    let s = size-le v.lengths in
    let l : IsWithinLimit v.lengths = subst (λ w. IsWithinLimit w.lengths) c.v.view_is c.v.invariant.limit in
    omega arith
