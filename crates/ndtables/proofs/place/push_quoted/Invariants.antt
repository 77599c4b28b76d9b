-- The line so far extends what it was.
use Rattle.ndarray.proofs.Common.{string_bytes}
use Rattle.ndtables.specs.Places.{Extends}
use Rattle.ndtables.proofs.place.push_quoted.Given as goal

abbrev pub invariant-loop-letter : goal.invariant-loop-letter
invariant-loop-letter l = Extends (string_bytes l.fn.line) (string_bytes l.line)
