-- The cells of the bytes so far were appended.
use Rattle.ndarray.proofs.Common.{take}
use Rattle.uses.specs.Rows.{SpellsMore}
use Rattle.uses.proofs.rows.push_cells.Given as goal

abbrev pub invariant-loop-byte : goal.invariant-loop-byte
invariant-loop-byte l = SpellsMore (take l.byte-index l.byte-items) l.fn.cells.items l.cells.items
