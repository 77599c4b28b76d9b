use Rattle.std.proofs.Common.{Some, ℕ, List}
use Rattle.ndarray.specs.Producers.{YieldsInTurn}
use Rattle.ndarray.proofs.runs.Turns.{Reached}
use Rattle.ndarray.proofs.zip.walk.walk_run.Given as goal

abbrev pub invariant-loop-item : goal.invariant-loop-item
invariant-loop-item g l =
    (goal.iterator-loop-item g).can_next l.run
    × (goal.iterator-loop-item g).is_finite l.run
    × ((p : g.row.P.Denot) (is : List (List ℕ)) → YieldsInTurn (goal.iterator-loop-item g).next_gives (g.P.NdProducer.yields_at p) l.fn.run is
    → Reached (goal.iterator-loop-item g).next_gives (g.P.NdProducer.yields_at p) g.T.Turn.goes is l.run l.fn.turn l.turn)
    × ((x : g.row.P-Item.Denot) (t : g.row.R.Denot) → (goal.iterator-loop-item g).next_gives l.run (Some x) t → g.T.Turn.can_accept l.turn x)
