use Rattle.std.proofs.Common.{◌∙◌, refl, ap, arith, length, subst, sym, filter_map}
use Rattle.ndarray.specs.Grid.{IsGrid}
use Rattle.ndarray.specs.Limits.{IsWithinLimit}
use Rattle.ndarray.specs.Orders.{HasInOrder, box_in, cells_in}
use Rattle.ndarray.specs.base.Slots.{held_at}
use Rattle.ndarray.specs.declared.base.shape.Order.TheVariants.{RowMajor}
use Rattle.ndarray.specs.places.ElementPlaces.{AreDistinctPlaces}
use Rattle.ndarray.proofs.cells.Cells.{along-row_order, cells_in-HasInOrder, length-along}
use Rattle.ndarray.proofs.moving.BorrowedCells.{AreDistinctPlaces-all, found-all}
use Rattle.ndarray.proofs.boxes.Orders.{box_in-within, length-box_in}
use Rattle.ndarray.proofs.strides.Reach.{length-cells_at}
use Rattle.ndarray.proofs.boxes.Sizes.{size-le}
use Rattle.ndarray.proofs.base.array.ArrayBase.iter_mut.Goals as goal

pub invariant_of-result : goal.invariant_of-result
invariant_of-result g c =
    let l = c.region_parts-region.result in
    let axes = g.D.Lengths.numbers in
    subst (AreDistinctPlaces (held_at l.region.slots)) (sym c.new.ensures) (AreDistinctPlaces-all (held_at l.region.slots) (axes l.layout.dim) l.layout.start (axes l.layout.strides) c.region_parts-region.ensures.reaches RowMajor)

pub returns : goal.returns
returns g c =
    let a = c.args.self.now in
    let l = c.region_parts-region.result in
    let axes = g.D.Lengths.numbers in
    let whole : IsGrid a = subst IsGrid c.region_parts-region.ensures.same (length-cells_at _ _ _ _ c.region_parts-region.ensures.reaches) in
    let found = ap (filter_map (held_at l.region.slots)) c.new.ensures
    ∙ (found-all (held_at l.region.slots) (axes l.layout.dim) l.layout.start (axes l.layout.strides) c.region_parts-region.ensures.reaches RowMajor
    ∙ ap (cells_in RowMajor) c.region_parts-region.ensures.same) in
    let e = ap length found in
    let k = length-along a whole (box_in RowMajor a.lengths) (box_in-within RowMajor a.lengths) in
    let n = length-box_in RowMajor a.lengths in
    let s = size-le a.lengths in
    let most : IsWithinLimit a.lengths = subst (λ w. IsWithinLimit w.lengths) c.region_parts-region.ensures.same c.region_parts-region.ensures.reaches.limit in (
      (refl, λ w. refl),
      record {
        writes_back = tt;
        row_order = subst (HasInOrder RowMajor a) (sym found) (cells_in-HasInOrder RowMajor a whole);
        cells = found ∙ along-row_order a whole;
        fits = omega arith;
      },
    )
