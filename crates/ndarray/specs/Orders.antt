-- The two orders of a box by their names.
use Rattle.std.specs.Prelude.{◌≡◌, ℕ, List, Some, length, map, filter_map, IsPermutation}
use Rattle.ndarray.specs.Index.{row_order, column_order, IsRowOrder, IsColumnOrder}
use Rattle.ndarray.specs.Grid.{Grid, IsGrid, cell}
use Rattle.ndarray.specs.declared.base.shape.Order.{Order}
use Rattle.ndarray.specs.declared.base.shape.Order.TheVariants.{RowMajor, ColumnMajor}

-- xs is the box in the named order
abbrev pub IsBoxIn : Order → List ℕ → List (List ℕ) → Type 0
IsBoxIn RowMajor = IsRowOrder
IsBoxIn ColumnMajor = IsColumnOrder

-- the list that is the box in the named order
abbrev pub box_in : Order → List ℕ → List (List ℕ)
box_in RowMajor ns = row_order ns
box_in ColumnMajor ns = column_order ns

-- the cells of an array in the named order
abbrev pub cells_in : {A : Type 0} → Order → Grid A → List A
cells_in order g = filter_map (cell g) (box_in order g.lengths)

-- along the box in the named order, the array's cells are xs
abbrev pub HasInOrder : {A : Type 0} → Order → Grid A → List A → Type 0
HasInOrder order g xs = (is : List (List ℕ)) → IsBoxIn order g.lengths is → map (cell g) is ≡ map Some xs

-- xs are the cells at index lists that are those of the box, each once, in some order
pub record IsListOfCells {A : Type 0} (g : Grid A) (xs : List A) : Type 0 where
  pub indices : List (List ℕ)
  pub once : IsPermutation (row_order g.lengths) indices
  pub cells : map (cell g) indices ≡ map Some xs

-- h has the cells of g, in some order, and as many axes
pub record HasSameCells {A : Type 0} (g h : Grid A) : Type 0 where
  pub cells : IsPermutation g.cells h.cells
  pub axes : length h.lengths ≡ length g.lengths
  pub whole : IsGrid h
