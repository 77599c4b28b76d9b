use Rattle.std.proofs.Common.{ap, ◌≡◌, ◌∙◌, map, filter_map}
use Rattle.ndarray.specs.Grid.{cell}
use Rattle.ndarray.specs.order.Rows.{rows_in}
use Rattle.ndarray.proofs.runs.Rows.{RowsInTurn-cells}
use Rattle.ndarray.proofs.runs.SameRows.{HasRows-same}
use Rattle.ndarray.proofs.zip.index_lists.IndicesNdProducer.into_rows.Goals as goal

rows-are : (g : _) (c : goal.After-new-rows g) → c.new-rows.result ≡ rows_in c.args.order c.args.self.lengths
rows-are g c = c.new-rows.ensures ∙ ap (rows_in c.args.order) c.raw_dim.ensures.lengths

pub invariant_of-result : goal.invariant_of-result
invariant_of-result g c = HasRows-same _ _ _ (rows-are g c) c.raw_dim.ensures.whole

pub returns-clause-gives : goal.returns-clause-gives
returns-clause-gives g c = RowsInTurn-cells c.args.self (λ row. row) (λ rest. rest) c.args.order c.raw_dim.ensures.whole _ (ap (map (filter_map (cell c.args.self))) (rows-are g c))
