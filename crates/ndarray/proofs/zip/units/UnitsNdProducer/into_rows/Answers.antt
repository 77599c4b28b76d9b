use Rattle.std.proofs.Common.{◌≡◌, ◌∙◌, ap, length, map, sym}
use Rattle.std.specs.Iterator.Adapters.{repeat_n_count}
use Rattle.ndarray.specs.Index.{size}
use Rattle.ndarray.specs.order.Rows.{rows_in}
use Rattle.ndarray.proofs.boxes.Orders.{length-box_in}
use Rattle.ndarray.proofs.runs.Rows.{RowsInTurn-map}
use Rattle.ndarray.proofs.zip.units.UnitsNdProducer.into_rows.Goals as goal

rows-are : (g : _) (c : goal.After-drop-self-2 g) → c.new.result ≡ rows_in c.args.order c.args.self.lists.lengths
rows-are g c = c.new.ensures ∙ ap (rows_in c.args.order) c.raw_dim-dim.ensures.lengths

pub returns-clause-form : goal.returns-clause-form
returns-clause-form g c = (ap (map length) (rows-are g c), c.size-size.ensures ∙ (ap size c.raw_dim-dim.ensures.lengths ∙ sym (length-box_in c.args.order _)))

pub returns-clause-gives : goal.returns-clause-gives
returns-clause-gives g c = RowsInTurn-map repeat_n_count (λ s. s.rows) length _ (ap (map length) (rows-are g c))
