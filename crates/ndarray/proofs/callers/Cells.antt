-- The cells of an array at its index lists, and along a list of them.

-- In the box there is a cell, and an index list with a cell is in the box. Two arrays of the same lengths and cells are equal; an array is the one that is
-- tabulated by its cells, and has at each index list what it was tabulated by.
pub use Rattle.ndarray.proofs.cells.Cells.{cell-Some, cell-inside, same_grid, tabulate-cell, tabulate-is}
-- What is made of a function of the index list is whole, and has at each index list what the function gives; items along an axis are whole.
pub use Rattle.ndarray.proofs.cells.Cells.{array_by-cell, array_by-whole}
pub use Rattle.ndarray.proofs.algebra.Stacks.{tabulate-whole}
pub use Rattle.ndarray.proofs.views.WholeItems.{item-whole}
-- An array that is transposed twice is the array.
pub use Rattle.ndarray.proofs.cells.CellsInOrder.{transpose_of-transpose_of, transpose_of-whole}
-- The cells along an order of the box, and along a list of index lists without its first.
pub use Rattle.ndarray.proofs.cells.Cells.{HasCells-first, along-first, cells_in-HasInOrder}
-- the element beside the k-th of index lists that increase is the k-th
pub use Rattle.ndarray.proofs.lists.CellLookup.{beside-at}
use Rattle.std.proofs.Common.{◌≡◌, ◌∙◌, ℕ, List, ap, reverse}
use Rattle.std.proofs.lemmas.List.{reverse-reverse}
use Rattle.ndarray.specs.Grid.{Grid, IsGrid, cell}
use Rattle.ndarray.specs.Index.{InBox}
use Rattle.ndarray.specs.Views.{transpose_of}
use Rattle.ndarray.proofs.boxes.Boxes.{InBox-reverse}

-- the cell of a transposed array at a reversed index list is the array's at the index list
pub transpose-cell : {A : Type 0} (g : Grid A) (is : List ℕ) → IsGrid (transpose_of g) → InBox g.lengths is → cell (transpose_of g) (reverse is) ≡ cell g is
transpose-cell g is whole inside =
    tabulate-cell (reverse g.lengths) (λ js. cell g (reverse js)) (reverse is) whole (InBox-reverse g.lengths is inside) ∙ ap (cell g) (reverse-reverse is)
