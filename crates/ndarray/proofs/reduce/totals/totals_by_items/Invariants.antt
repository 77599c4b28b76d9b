use Rattle.ndarray.proofs.cells.LaneTotals.{AddedItems}
use Rattle.ndarray.proofs.reduce.totals.totals_by_items.Given as goal

abbrev pub invariant-loop-k : goal.invariant-loop-k
invariant-loop-k g l =
    let v = g.T.TotalOperation in
    AddedItems v.operation v.InRange v.meaning l.array l.axis.0 l.k l.totals
