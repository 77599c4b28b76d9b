-- So far no axis ends before the cell, and nothing was written.
use Rattle.std.proofs.Common.{◌≡◌, ◌<◌, ◌%◌, drop}
use Rattle.ndarray.specs.Index.{size}
use Rattle.ndarray.specs.every_day.Breaks.{break_text}
use Rattle.ndarray.proofs.everyday.display.write_break.Given as goal

abbrev pub invariant-loop-axis : goal.invariant-loop-axis
invariant-loop-axis g l = record {
  unwritten : l.f ≡ l.initial.f;
  block : l.block ≡ size (drop l.axis l.lengths);
  some : 0 < l.block;
  inside : 0 < l.j % l.block;
  same : break_text 0 l.lengths l.j ≡ break_text l.axis (drop l.axis l.lengths) (l.j % l.block);
}
