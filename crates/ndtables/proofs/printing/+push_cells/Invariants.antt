use Rattle.std.proofs.Common.{◌≡◌, ◌++◌, ◌-◌, ◌*◌, length, drop}
use Rattle.std.specs.Prelude.{string_bytes}
use denote.Text.{Utf8}
use denote.Shadow.{shadow}
use Rattle.std.specs.List.{join_by}
use Rattle.ndarray.specs.Index.{size}
use Rattle.ndtables.specs.Printing.{pieces, cells_text, separator_text}
use Rattle.ndtables.proofs.PrintedCells.{joined_after}
use Rattle.ndtables.proofs.printing.+push_cells.Given as goal

abbrev pub decreases-push_cells : goal.decreases-push_cells
decreases-push_cells g l = length l.lengths.now

-- the text so far, before that of the subarrays to come, and the cells to come
abbrev pub invariant-loop : goal.invariant-loop
invariant-loop g l = record {
  utf8 : shadow (Utf8 l.before);
  text : string_bytes l.text ++ joined_after (cells_text l.between l.rest) (separator_text l.between l.rest) l.before (pieces (l.end - l.counter) (size l.rest) l.cells)
      ≡ string_bytes l.initial.text ++ join_by (cells_text l.between l.rest) (separator_text l.between l.rest) (pieces l.end (size l.rest) l.initial.cells);
  rest : drop ((l.end - l.counter) * size l.rest) l.cells ≡ drop (l.end * size l.rest) l.initial.cells;
}
