use Rattle.std.proofs.Common.{List, ℕ}
use Rattle.ndarray.specs.order.Rows.{RowsInTurn, joined}
use Rattle.ndarray.proofs.runs.Rows.{RowsReached}
use Rattle.ndarray.proofs.zip.walk.walk_rows.Given as goal

abbrev pub invariant-loop-row : goal.invariant-loop-row
invariant-loop-row g l =
    (goal.iterator-loop-row g).can_next l.rows
    × (goal.iterator-loop-row g).is_finite l.rows
    × ((p : g.row.P.Denot) (iss : List (List (List ℕ))) → RowsInTurn (goal.iterator-loop-row g).next_gives (g.P.NdProducer.row_form p) l.fn.rows iss
    → RowsReached (goal.iterator-loop-row g).next_gives (g.P.NdProducer.row_form p) (g.P.NdProducer.yields_at p) g.T.Turn.goes (joined iss) l.rows l.fn.turn l.turn)
