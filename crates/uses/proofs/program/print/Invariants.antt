-- What is gone from `rest` was appended.
use Rattle.uses.specs.Streams.{AppendsUpTo}
use Rattle.uses.proofs.program.print.Given as goal

abbrev pub invariant-loop : goal.invariant-loop
invariant-loop g l = AppendsUpTo (g.W.Write.contents l.initial.out) (g.W.Write.contents l.out) l.text l.rest
