use Rattle.std.proofs.Common.{zip, ap, ◌∙◌, subst, sym}
use Rattle.ndarray.specs.Grid.{IsGrid}
use Rattle.ndarray.specs.Index.{row_order}
use Rattle.ndarray.specs.Orders.{cells_in}
use Rattle.ndarray.specs.base.Storage.{seen_at}
use Rattle.ndarray.specs.base.Strided.{HaveElements}
use Rattle.ndarray.specs.declared.base.shape.Order.TheVariants.{RowMajor}
use Rattle.ndarray.specs.places.ElementPlaces.{places_of, with_elements}
use Rattle.ndarray.proofs.cells.Cells.{along-row_order}
use Rattle.ndarray.proofs.moving.BorrowedCells.{held-all, with_elements-all, with_places-places}
use Rattle.ndarray.proofs.strides.Reach.{length-cells_at}
use Rattle.ndarray.proofs.iter.indexed.IndexedIter.new.Goals as goal

pub invariant_of-result : goal.invariant_of-result
invariant_of-result g c =
    let axes = g.D.Lengths.numbers in
    let a = c.view.inside in
    let at = seen_at a.storage in
    let ns = axes a.layout.dim in
    let bs = axes a.layout.strides in
    subst (HaveElements at) (sym (ap places_of c.new.ensures ∙ with_places-places a.layout.start bs (row_order ns))) (held-all at ns a.layout.start bs c.view.invariant RowMajor)

pub returns-clause-whole : goal.returns-clause-whole
returns-clause-whole g c = subst IsGrid c.view.view_is (length-cells_at _ _ _ _ c.view.invariant)

pub returns-clause-list : goal.returns-clause-list
returns-clause-list g c =
    let axes = g.D.Lengths.numbers in
    let a = c.view.inside in
    let at = seen_at a.storage in
    let v = c.args.view in
    ap (with_elements at) c.new.ensures
    ∙ (with_elements-all at (axes a.layout.dim) a.layout.start (axes a.layout.strides) c.view.invariant RowMajor
    ∙ (ap (λ w. zip (row_order w.lengths) (cells_in RowMajor w)) c.view.view_is
    ∙ ap (zip (row_order v.lengths)) (along-row_order v (returns-clause-whole g c))))
