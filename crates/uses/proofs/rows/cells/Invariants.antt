-- These cells are those of the rows so far.
use Rattle.ndarray.proofs.Common.{map, concat}
use Rattle.uses.specs.Rows.{SpellCells}
use Rattle.uses.proofs.rows.cells.Given as goal

abbrev pub invariant-loop-row : goal.invariant-loop-row
invariant-loop-row l = SpellCells (concat (map (λ x. x.now) l.yielded)) l.cells.items
