use Rattle.std.proofs.Common.{◌≡◌, ◌≤◌, ◌+◌, length}
use Rattle.ndtables.specs.Reading.{ReadsNumbers}
use Rattle.ndtables.proofs.words.Words.cells.Given as goal

abbrev pub invariant-loop : goal.invariant-loop
invariant-loop l = record {
  as_many : length l.cells.items ≡ l.counter;
  read : ReadsNumbers l.fn.self l.self l.cells.items;
  left : l.count ≤ l.counter + length l.self;
}
