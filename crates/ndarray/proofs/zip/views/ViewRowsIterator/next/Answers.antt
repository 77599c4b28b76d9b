use Rattle.std.proofs.Common.{subst, ◌<◌, length}
use Rattle.ndarray.specs.Grid.{HasCells}
use Rattle.std.proofs.lemmas.List.Elements.{All-tail}
use Rattle.ndarray.specs.order.Rows.{HasRows}
use Rattle.ndarray.specs.base.Ranks.{row_from}
use Rattle.ndarray.proofs.zip.views.ViewRowsIterator.next.Goals as goal

pub invariant_of-self-2 : goal.invariant_of-self-2
invariant_of-self-2 g c =
    All-tail (λ row. (0 < length row) × HasCells c.self.inside.view row) (row_from (g.D.Lengths.numbers c.in-Some.row.first) c.in-Some.row.axis c.in-Some.row.count) c.next.new.self (subst (HasRows c.self.inside.view) c.in-Some.ensures c.self.invariant)
