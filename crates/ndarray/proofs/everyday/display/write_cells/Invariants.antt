-- What was written so far, and the text of the cells to come, are the text of all.
use Rattle.std.proofs.Common.{◌≡◌, ◌+◌, ◌++◌, ℕ, List, Some, length}
use Rattle.std.specs.Fmt.{HasWritten, IsPlainFormatter}
use Rattle.ndarray.specs.every_day.Breaks.{cells_text, lead_text}
use Rattle.ndarray.proofs.everyday.display.write_cells.Given as goal

abbrev pub invariant-loop-cell : goal.invariant-loop-cell
invariant-loop-cell g l = record {
  many : l.j + length l.cell-iterator ≡ l.count;
  so_far : (all : List ℕ) → cells_text g.T.CellText.text (lead_text 0 l.lengths) 0 l.fn.cells ≡ Some all → IsPlainFormatter l.initial.f
      → (written : List ℕ) × (rest : List ℕ) × (cells_text g.T.CellText.text (lead_text 0 l.lengths) l.j l.cell-iterator ≡ Some rest) × (all ≡ written ++ rest) × HasWritten g.W.Write.write_str_gives l.initial.f written l.f;
}
