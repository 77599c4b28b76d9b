use Rattle.std.proofs.Common.{ap}
use Rattle.ndarray.specs.order.Rows.{rows_in}
use Rattle.ndarray.proofs.runs.Rows.{RowsInTurn-pairs}
use Rattle.ndarray.proofs.zip.pair.PairNdProducer.into_rows.Goals as goal

pub returns-clause-gives : goal.returns-clause-gives
returns-clause-gives g c = RowsInTurn-pairs _ _ _ _ _ _ _ (ap (rows_in c.args.order) c.args.self.same) c.into_rows.ensures.gives c.into_rows-2.ensures.gives
