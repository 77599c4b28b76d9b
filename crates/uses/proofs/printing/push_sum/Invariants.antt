-- The text, with the numbers to come, is the whole.
use Rattle.ndarray.proofs.Common.{◌≡◌, ◌++◌, ◌∷◌, [], flat_map, string_bytes}
use Rattle.std.specs.Fmt.{signed_decimal}
use Rattle.uses.proofs.printing.push_sum.Given as goal

abbrev pub invariant-loop-number : goal.invariant-loop-number
invariant-loop-number l = string_bytes l.text ++ flat_map (λ x. signed_decimal x ++ 32 ∷ []) l.number-iterator ≡ string_bytes l.fn.text ++ flat_map (λ x. signed_decimal x ++ 32 ∷ []) l.line.cells
