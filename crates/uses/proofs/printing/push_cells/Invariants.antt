-- The text, with the cells to come, is the whole.
use Rattle.ndarray.proofs.Common.{◌≡◌, ◌++◌, map, string_bytes}
use Rattle.uses.specs.Printing.{mark_of}
use Rattle.uses.proofs.printing.push_cells.Given as goal

abbrev pub invariant-loop-alive : goal.invariant-loop-alive
invariant-loop-alive l = string_bytes l.text ++ map mark_of l.alive-iterator ≡ string_bytes l.fn.text ++ map mark_of l.row.cells
