-- These numbers are those of the words so far.
use Rattle.ndarray.proofs.Common.{map}
use Rattle.uses.specs.Spelling.{SpellNumbers}
use Rattle.uses.proofs.spelling.numbers.Given as goal

abbrev pub invariant-loop-word : goal.invariant-loop-word
invariant-loop-word l = SpellNumbers (map (λ x. x.now) l.yielded) l.numbers.items
