-- As many steps were taken as the loop has gone round.
use Rattle.ndarray.proofs.Common.{◌≡◌}
use Rattle.uses.specs.Life.{generation}
use Rattle.uses.proofs.life.after.Given as goal

abbrev pub invariant-loop : goal.invariant-loop
invariant-loop g l = l.now ≡ generation l.counter l.grid
