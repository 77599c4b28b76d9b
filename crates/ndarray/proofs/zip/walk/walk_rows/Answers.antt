use Rattle.std.proofs.Common.{refl, rules}
use Rattle.ndarray.proofs.runs.Turns.{ran-Ok}
use Rattle.ndarray.proofs.runs.Rows.{rows-start, may-row, next-row, row-stopped, rows-ended}
use Rattle.ndarray.proofs.zip.walk.walk_rows.Goals as goal

pub loop-row-init : goal.loop-row-init
loop-row-init g c = (c.requires.can_next, c.requires.finite, λ p iss gives. rows-start _ _ _ _ _ refl gives)

pub walk_row-requires : goal.walk_row-requires
walk_row-requires g c =
    let w = c.requires.can in
    (w.0, may-row _ _ _ _ w.1.1.1 (c.loop-row.invariant.2 w.0 w.1.0 w.1.1.0) c.in-Some.ensures.steps)

pub returns-in-Err : goal.returns-in-Err
returns-in-Err g c = record { ran = λ p iss gives. row-stopped _ _ _ _ _ c.in-Err.stop (c.loop-row.invariant.2 p iss gives) c.in-Some.ensures.steps (c.in-Err.ensures p) }

pub loop-row-preserved : goal.loop-row-preserved
loop-row-preserved g c = (
  search rules,
  search rules,
  λ p iss gives. next-row _ _ _ _ (c.loop-row.invariant.2 p iss gives) c.in-Some.ensures.steps (λ is form. ran-Ok _ _ _ _ _ (c.in-Ok.ensures p is form)),
)

pub returns : goal.returns
returns g c = record { ran = λ p iss gives. rows-ended _ _ _ _ _ (c.loop-row.invariant.2 p iss gives) (rw c.in_default.is at c.next.ensures.steps) }
