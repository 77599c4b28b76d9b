use Rattle.ndarray.proofs.runs.Rows.{RowsInTurn-cells}
use Rattle.ndarray.proofs.zip.views_mut.PiecesMutNdProducer.into_rows.Goals as goal

pub returns-clause-gives : goal.returns-clause-gives
returns-clause-gives g c = RowsInTurn-cells c.args.self (λ row. row) (λ rest. rest) c.args.order c.into_rows.ensures.whole _ c.into_rows.ensures.rows
