use Rattle.std.proofs.Common.{◌≡◌, sym, ap, ◌∙◌, map, take, Some, arith}
use Rattle.std.proofs.lemmas.List.{take_all}
use Rattle.ndarray.specs.Grid.{IsGrid, cell}
use Rattle.ndarray.specs.Index.{size}
use Rattle.ndarray.specs.Orders.{box_in, HasInOrder}
use Rattle.ndarray.proofs.callers.IndexLists.{box_in-is}
use Rattle.ndtables.specs.Stored.{stored_array}
use Rattle.ndtables.proofs.StoredCells.{stored_array-is}
use Rattle.ndtables.proofs.table.Table.view.Goals.{in-RowMajor, in-ColumnMajor}
use Rattle.ndtables.proofs.table.Table.view.Goals as goal

pub returns-clause-same : goal.returns-clause-same
returns-clause-same g c =
    let numbers = g.D.Lengths.numbers in
    let t = c.self.inside in
    let s = c.match-self.shape in
    let v = c.unwrap.result in
    let shaped : (numbers s.dim ≡ numbers t.dim) × (s.order ≡ t.order) = elim c.match-self.branch [
      | in-RowMajor w ↦ (ap (λ z. numbers z.dim) w.shape-is ∙ (w.into_shape_with_order-shape.ensures.lengths ∙ c.copied-dim.ensures.value), ap (λ z. z.order) w.shape-is ∙ (w.into_shape_with_order-shape.ensures.order ∙ sym w.in-RowMajor.is))
      | in-ColumnMajor w ↦ (ap (λ z. numbers z.dim) w.shape-is ∙ (w.f-shape.ensures.lengths ∙ c.copied-dim.ensures.value), ap (λ z. z.order) w.shape-is ∙ (w.f-shape.ensures.order ∙ sym w.in-ColumnMajor.is))
    ] in
    let lengths : v.lengths ≡ numbers s.dim = rw c.unwrap.ensures at c.from_shape.ensures.lengths in
    let whole : IsGrid v = rw c.unwrap.ensures at c.from_shape.ensures.whole in
    let told : HasInOrder s.order v (take (size v.lengths) c.as_slice.result.now) = rw c.unwrap.ensures at c.from_shape.ensures.cells in
    let all : take (size v.lengths) c.as_slice.result.now ≡ t.cells.items =
    ap (take (size v.lengths)) c.as_slice.ensures.value
    ∙ take_all (size v.lengths) t.cells.items (let e = ap size (lengths ∙ shaped.0) in let f = c.self.invariant.as_many in omega arith) in
    let listed : map (cell v) (box_in s.order v.lengths) ≡ map Some t.cells.items =
    told (box_in s.order v.lengths) (box_in-is s.order v.lengths) ∙ ap (map Some) all in
    stored_array-is s.order v (numbers t.dim) t.cells.items whole (lengths ∙ shaped.0) listed
    ∙ (ap (λ o. stored_array o (numbers t.dim) t.cells.items) shaped.1 ∙ c.self.view_is)
