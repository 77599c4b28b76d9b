use Rattle.ndarray.specs.declared.base.shape.Order.TheVariants.{RowMajor, ColumnMajor}
use Rattle.ndarray.proofs.callers.Computing.{all-computed}
use Rattle.ndarray.proofs.zip.all_items.Zip+Parts+N+K+D.all_items.Goals as goal

pub all_in_either_order-requires-clause-by_rows : goal.all_in_either_order-requires-clause-by_rows
all_in_either_order-requires-clause-by_rows g c = rw c.self.view_is (c.requires.callable RowMajor)

pub all_in_either_order-requires-clause-by_columns : goal.all_in_either_order-requires-clause-by_columns
all_in_either_order-requires-clause-by_columns g c = rw c.self.view_is (c.requires.callable ColumnMajor)

pub returns-clause-ran : goal.returns-clause-ran
returns-clause-ran g c = rw c.self.view_is at c.all_in_either_order.ensures.ran

pub returns-clause-follows : goal.returns-clause-follows
returns-clause-follows g c = λ ns h own computes.
    let (o, ran) = returns-clause-ran g c in
    all-computed _ _ ns _ own o g.C.ItemCall.call_gives h computes _ ran
