-- The text so far is the first length and those so far, each behind an `x`.
use Rattle.std.proofs.Common.{◌≡◌, ◌++◌, ◌∷◌, take}
use Rattle.std.specs.Prelude.{decimal, flat_map, string_bytes}
use Rattle.ndtables.proofs.printing.push_shape.Given as goal

abbrev pub invariant-loop-length : goal.invariant-loop-length
invariant-loop-length l = string_bytes l.text ≡ string_bytes l.initial.text ++ flat_map (λ m. 120 ∷ decimal m) (take l.length-index l.rest)
