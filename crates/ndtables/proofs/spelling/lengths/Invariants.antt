use Rattle.std.proofs.Common.{◌≡◌, map}
use Rattle.std.specs.Prelude.{All}
use Rattle.std.specs.Str.Parse.{digits_value}
use Rattle.ndtables.specs.Spelling.{IsDigits}
use Rattle.ndtables.proofs.spelling.lengths.Given as goal

-- each piece so far is a length, and these are the axes so far
abbrev pub invariant-loop-piece : goal.invariant-loop-piece
invariant-loop-piece l = record {
  digits : All IsDigits (map (λ x. x.now) l.yielded);
  values : l.axes.items ≡ map (digits_value 10) (map (λ x. x.now) l.yielded);
}
