-- None of the words so far is too long, and they were counted.
use Rattle.std.proofs.Common.{◌≡◌, length, map}
use Rattle.ndtables.specs.Words.{AreShort}
use Rattle.ndtables.proofs.input.count_short.Given as goal

abbrev pub invariant-loop-word : goal.invariant-loop-word
invariant-loop-word l = record {
  count : l.count ≡ length l.yielded;
  short : AreShort (map (λ x. x.now) l.yielded);
}
