-- The cells of an array in column order.
use Rattle.std.proofs.Common.{◌≡◌, List, [], ◌∷◌, Option, ap, map, refl, sym, reverse}
use Rattle.std.specs.Prelude.{filter_map}
use Rattle.std.specs.List.{cons_option}
use Rattle.ndarray.specs.Grid.{Grid, cell, cells_by}
use Rattle.ndarray.specs.Index.{column_order, row_order}
use Rattle.ndarray.specs.Orders.{cells_in}
use Rattle.ndarray.specs.Views.{transpose_of}
use Rattle.ndarray.specs.declared.base.shape.Order.TheVariants.{ColumnMajor}

filter_map-map : {X Y A : Type 0} (f : Y → Option A) (h : X → Y) (xs : List X) → filter_map f (map h xs) ≡ filter_map (λ x. f (h x)) xs
filter_map-map f h [] = refl
filter_map-map f h (x ∷ xs) = ap (cons_option (f (h x))) (filter_map-map f h xs)

-- those of the transposed view in row order are those of the array in column order
pub cells-transposed : {A : Type 0} (g : Grid A) → (transpose_of g).cells ≡ cells_in ColumnMajor g
unfolding cells_by column_order
cells-transposed g = sym (filter_map-map (cell g) reverse (row_order (reverse g.lengths)))
