use Rattle.std.proofs.Common.{◌≡◌, ◌∙◌, ap, filter_map, map, subst, sym}
use Rattle.std.specs.Prelude.{IsPermutation}
use Rattle.ndarray.specs.Grid.{cell}
use Rattle.ndarray.specs.order.Rows.{HasRows, joined, rows_in}
use Rattle.ndarray.specs.declared.base.shape.Order.TheVariants.{RowMajor}
use Rattle.ndarray.proofs.cells.CellRows.{cells-by_rows}
use Rattle.ndarray.proofs.runs.Rows.{HasRows-rows_in}
use Rattle.ndarray.proofs.iter.runs.CellRuns.of.Goals as goal

pub invariant_of-result : goal.invariant_of-result
invariant_of-result g c =
    let view = c.in_memory_order-view.result in
    subst (HasRows view) (sym (c.new.ensures ∙ ap (rows_in RowMajor) c.raw_dim-dim.ensures.lengths)) (HasRows-rows_in view RowMajor c.raw_dim-dim.ensures.whole)

pub returns-in-None : goal.returns-in-None
returns-in-None g c =
    let view = c.in_memory_order-view.result in
    let rows : c.new.result ≡ rows_in RowMajor view.lengths = c.new.ensures ∙ ap (rows_in RowMajor) c.raw_dim-dim.ensures.lengths in
    subst (IsPermutation c.args.view.cells) (sym (ap (λ r. joined (map (filter_map (cell view)) r)) rows ∙ cells-by_rows view c.raw_dim-dim.ensures.whole)) c.in_memory_order-view.ensures.cells
