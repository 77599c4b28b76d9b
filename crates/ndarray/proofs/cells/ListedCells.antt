-- An array whose cells in row order are a list.
use Rattle.std.proofs.Common.{◌≡◌, ◌∙◌, ℕ, List, ap, refl}
use Rattle.ndarray.specs.Grid.{Grid, IsGrid, grid}
use Rattle.ndarray.specs.Orders.{cells_in}
use Rattle.ndarray.specs.declared.base.shape.Order.TheVariants.{RowMajor}
use Rattle.ndarray.proofs.cells.Cells.{cells-row_major}

pub grid-listed : {A : Type 0} (g : Grid A) (ns : List ℕ) (xs : List A) → g.lengths ≡ ns → g.cells ≡ xs → g ≡ grid ns xs
grid-listed g ns xs lengths cells = ap (λ ms. grid ms g.cells) lengths ∙ ap (grid ns) cells

pub grid-listed_in_rows : {A : Type 0} (g : Grid A) (ns : List ℕ) (xs : List A) → IsGrid g → g.lengths ≡ ns → cells_in RowMajor g ≡ xs → g ≡ grid ns xs
grid-listed_in_rows g ns xs whole lengths list = grid-listed g ns xs lengths (cells-row_major RowMajor g xs whole list refl)
