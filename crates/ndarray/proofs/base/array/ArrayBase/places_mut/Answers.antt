use Rattle.std.proofs.Common.{zip, refl, ap, ◌∙◌, subst, sym}
use Rattle.ndarray.specs.Grid.{IsGrid}
use Rattle.ndarray.specs.Index.{row_order}
use Rattle.ndarray.specs.Limits.{IsWithinLimit}
use Rattle.ndarray.specs.Orders.{cells_in}
use Rattle.ndarray.specs.base.Slots.{held_at}
use Rattle.ndarray.specs.declared.base.shape.Order.TheVariants.{RowMajor}
use Rattle.ndarray.specs.places.ElementPlaces.{AreDistinctPlaces, places_of, with_elements}
use Rattle.ndarray.proofs.cells.Cells.{along-row_order}
use Rattle.ndarray.proofs.moving.BorrowedCells.{AreDistinctPlaces-all, with_elements-all, with_places-places}
use Rattle.ndarray.proofs.strides.Reach.{length-cells_at}
use Rattle.ndarray.proofs.base.array.ArrayBase.places_mut.Goals as goal

pub invariant_of-result : goal.invariant_of-result
invariant_of-result g c =
    let axes = g.D.Lengths.numbers in
    let l = c.region_parts-region.result in
    let at = held_at l.region.slots in
    let ns = axes l.layout.dim in
    let bs = axes l.layout.strides in
    subst (AreDistinctPlaces at) (sym (ap places_of c.new.ensures ∙ with_places-places l.layout.start bs (row_order ns))) (AreDistinctPlaces-all at ns l.layout.start bs c.region_parts-region.ensures.reaches RowMajor)

pub returns : goal.returns
returns g c =
    let axes = g.D.Lengths.numbers in
    let l = c.region_parts-region.result in
    let at = held_at l.region.slots in
    let a = c.args.self.now in
    let whole : IsGrid a = subst IsGrid c.region_parts-region.ensures.same (length-cells_at _ _ _ _ c.region_parts-region.ensures.reaches) in (
      (refl, λ w. refl),
      record {
        writes_back = tt;
        list = ap (with_elements at) c.new.ensures
            ∙ (with_elements-all at (axes l.layout.dim) l.layout.start (axes l.layout.strides) c.region_parts-region.ensures.reaches RowMajor
            ∙ (ap (λ w. zip (row_order w.lengths) (cells_in RowMajor w)) c.region_parts-region.ensures.same
            ∙ ap (zip (row_order a.lengths)) (along-row_order a whole)));
        whole = whole;
        limit = subst (λ w. IsWithinLimit w.lengths) c.region_parts-region.ensures.same c.region_parts-region.ensures.reaches.limit;
      },
    )
