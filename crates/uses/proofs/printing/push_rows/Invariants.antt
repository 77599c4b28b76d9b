-- The text, with the rows to come, is the whole.
use Rattle.ndarray.proofs.Common.{◌≡◌, ◌++◌, string_bytes, lanes_of}
use Rattle.uses.specs.Printing.{rows_text}
use Rattle.uses.proofs.printing.push_rows.Given as goal

abbrev pub invariant-loop-row : goal.invariant-loop-row
invariant-loop-row l = string_bytes l.text ++ rows_text l.row-iterator ≡ string_bytes l.fn.text ++ rows_text (lanes_of l.table 1).cells
