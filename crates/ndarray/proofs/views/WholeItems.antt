-- Items along an axis are whole.
use Rattle.std.proofs.Common.{◌<◌, ℕ, get_or, insert, length, remove}
use Rattle.ndarray.specs.Grid.{Grid, IsGrid, cell}
use Rattle.ndarray.specs.Views.{axis_item}
use Rattle.ndarray.proofs.algebra.Stacks.{tabulate-whole}
use Rattle.ndarray.proofs.cells.Cells.{cell-Some}
use Rattle.ndarray.proofs.views.Items.{InBox-insert}

-- item i of a whole array along axis k
pub item-whole : {A : Type 0} (g : Grid A) → IsGrid g → (k i : ℕ) → k < length g.lengths → i < get_or g.lengths k 0 → IsGrid (axis_item g k i)
item-whole g whole k i below lt =
    tabulate-whole (remove g.lengths k) (λ is. cell g (insert is k i)) (λ is b. cell-Some g whole (insert is k i) (InBox-insert g.lengths is k i below lt b))
