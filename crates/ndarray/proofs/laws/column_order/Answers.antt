use Rattle.ndarray.proofs.algebra.Orders.{cells-alike, column_order-rearranges, orders-alike}
use Rattle.ndarray.proofs.laws.column_order.Goals as goal

pub returns-clause-rearranges : goal.returns-clause-rearranges
returns-clause-rearranges g c = column_order-rearranges

pub returns-clause-totals : goal.returns-clause-totals
returns-clause-totals g c = orders-alike g.A.Valued.addition

pub returns-clause-cells : goal.returns-clause-cells
returns-clause-cells g c = cells-alike g.A.Valued.addition g.A.Valued.meaning
