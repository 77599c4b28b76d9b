-- Arrays after a write, and after a loop that writes.
use Rattle.std.proofs.Common.{List, ◌∙◌}
use Rattle.ndarray.specs.Grid.{Grid, IsGrid, grid}
use Rattle.ndarray.specs.Writes.{refit}
use Rattle.ndarray.proofs.lists.Refits.{length-refit}
-- After a write through `get_mut` an array is `with_cell`: it is whole, has what was written at the index list, and all other cells as before. With a cell
-- that it has it is itself.
pub use Rattle.ndarray.proofs.cells.Writes.{with_cell-elsewhere, with_cell-here, with_cell-own, with_cell-whole}

-- what a loop over `iter_mut`, `indexed_iter_mut` or `&mut array` leaves has as many cells as the array had
pub refitted-whole : {A : Type 0} (g : Grid A) (xs : List A) → IsGrid g → IsGrid (grid g.lengths (refit g.cells xs))
refitted-whole g xs whole = length-refit g.cells xs ∙ whole
