use Rattle.ndarray.proofs.Common.{rules}
use Rattle.uses.proofs.Written.{no-more, none-written, some-more}
use Rattle.uses.proofs.program.print.Goals as goal
use Rattle.uses.proofs.program.print.Goals.{in-Ok, in-Err+else-ne}

pub loop-init : goal.loop-init
loop-init g c = none-written _ _ _ c.as_bytes-rest.ensures.value

pub returns-then-is_empty-clause-front : goal.returns-then-is_empty-clause-front
returns-then-is_empty-clause-front g c = (_, no-more _ _ _ _ _ c.loop.invariant c.flush.ensures.bytes)

pub returns-in-Ok-eq0-clause-front : goal.returns-in-Ok-eq0-clause-front
returns-in-Ok-eq0-clause-front g c = (_, some-more _ _ _ _ _ c.loop.invariant 0 (search rules))

pub returns-then-ne-clause-front : goal.returns-then-ne-clause-front
returns-then-ne-clause-front g c = (_, no-more _ _ _ _ _ c.loop.invariant c.in-Err.ensures.bytes)

pub loop-preserved : goal.loop-preserved
loop-preserved g c = elim c.match-write.branch [
  | in-Ok w ↦ rw w.rest-is (some-more _ _ _ _ _ c.loop.invariant w.in-Ok.count w.in-Ok.ensures.bytes)
  | in-Err+else-ne w ↦ rw w.rest-is (no-more _ _ _ _ _ c.loop.invariant w.in-Err.ensures.bytes)
]

pub returns-clause-front : goal.returns-clause-front
returns-clause-front g c = (_, c.loop.invariant)
