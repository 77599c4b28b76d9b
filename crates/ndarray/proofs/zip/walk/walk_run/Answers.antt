use Rattle.std.proofs.Common.{rules, ℕ, List}
use Rattle.ndarray.specs.Producers.{YieldsInTurn}
use Rattle.ndarray.proofs.runs.Turns.{Reached, at_start, may_take, next_turn, ends_at, stops_at}
use Rattle.ndarray.proofs.zip.walk.walk_run.Given.{iterator-loop-item}
use Rattle.ndarray.proofs.zip.walk.walk_run.Goals as goal

pub loop-item-init : goal.loop-item-init
loop-item-init g c = let r = c.requires.can in (c.requires.can_next, c.requires.finite, λ p is gives. at_start _ _ _ _ gives, λ x t step. may_take _ _ _ r.1.1.1 (at_start _ _ _ _ r.1.1.0) step)

pub loop-item-preserved : goal.loop-item-preserved
loop-item-preserved g c =
    let r = c.requires.can in
    let reached : (p : g.row.P.Denot) (is : List (List ℕ)) → YieldsInTurn (iterator-loop-item g).next_gives (g.P.NdProducer.yields_at p) c.args.run is
    → Reached (iterator-loop-item g).next_gives (g.P.NdProducer.yields_at p) g.T.Turn.goes is c.next.new.self c.args.turn c.in-Ok.next =
    λ p is gives. next_turn _ _ _ (c.loop-item.invariant.2 p is gives) c.in-Some.ensures.steps (rw c.in-Ok.is at c.accept.ensures) in
    (search rules, search rules, reached, λ x t step. may_take _ _ _ r.1.1.1 (reached r.0 r.1.0 r.1.1.0) step)

pub returns-in-Err : goal.returns-in-Err
returns-in-Err g c = record { ran = λ p is gives. stops_at _ _ _ _ _ (c.loop-item.invariant.2 p is gives) c.in-Some.ensures.steps (rw c.in-Err.is at c.accept.ensures) }

pub returns : goal.returns
returns g c = record { ran = λ p is gives. ends_at _ _ _ _ (c.loop-item.invariant.2 p is gives) (rw c.in_default.is at c.next.ensures.steps) }
