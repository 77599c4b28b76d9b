-- The text, with the numbers to come, is the whole.
use Rattle.ndarray.proofs.Common.{◌≡◌, ◌++◌, string_bytes}
use Rattle.uses.specs.Printing.{others_text}
use Rattle.uses.proofs.printing.push_others.Given as goal

abbrev pub invariant-loop-number : goal.invariant-loop-number
invariant-loop-number l = string_bytes l.text ++ others_text l.number-iterator ≡ string_bytes l.fn.text ++ others_text l.fn.numbers
