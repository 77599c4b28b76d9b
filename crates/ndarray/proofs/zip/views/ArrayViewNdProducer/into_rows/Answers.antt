use Rattle.std.proofs.Common.{◌≡◌, ap, sym, subst, ◌∙◌, map, filter_map}
use Rattle.ndarray.specs.Grid.{cell}
use Rattle.ndarray.specs.Orders.{cells_in}
use Rattle.ndarray.specs.zip.RowCells.{row_cells}
use Rattle.ndarray.specs.order.Rows.{rows_in, HasRows}
use Rattle.ndarray.proofs.runs.OneRows.{one-said}
use Rattle.ndarray.proofs.runs.Rows.{HasRows-rows_in, RowsInTurn-cells}
use Rattle.ndarray.proofs.zip.views.ArrayViewNdProducer.into_rows.Goals as goal

rows-are : (g : _) (c : goal.After-slice_in g) → c.new-rows.result ≡ rows_in c.args.order c.args.self.lengths
rows-are g c = c.new-rows.ensures ∙ ap (rows_in c.args.order) c.raw_dim.ensures.lengths

pub invariant_of-result : goal.invariant_of-result
invariant_of-result g c = subst (HasRows c.args.self) (sym (rows-are g c)) (HasRows-rows_in c.args.self c.args.order c.raw_dim.ensures.whole)

pub returns-clause-form : goal.returns-clause-form
returns-clause-form g c =
    let v = c.args.self in
    ((ap (map (filter_map (cell v))) (rows-are g c), one-said (λ s. s.now) (λ l. l ≡ cells_in c.args.order v) c.slice_in.result c.slice_in.ensures.cells), c.raw_dim.ensures.whole)

pub returns-clause-gives : goal.returns-clause-gives
returns-clause-gives g c =
    let v = c.args.self in
    RowsInTurn-cells v row_cells (λ s. s.rows) c.args.order c.raw_dim.ensures.whole _ (ap (map (filter_map (cell v))) (rows-are g c))
