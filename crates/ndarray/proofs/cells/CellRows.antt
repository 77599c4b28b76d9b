-- The cells of the rows of a box are those of the box.
use Rattle.std.proofs.Common.{◌≡◌, ◌∙◌, List, [], ◌∷◌, ◌++◌, Option, ap, filter_map, map, refl, sym}
use Rattle.std.proofs.lemmas.List.Elements.{filter_map-append}
use Rattle.ndarray.specs.Grid.{Grid, IsGrid, cell}
use Rattle.ndarray.specs.order.Rows.{joined, rows_in}
use Rattle.ndarray.specs.declared.base.shape.Order.TheVariants.{RowMajor}
use Rattle.ndarray.proofs.boxes.Rows.{rows-joined}
use Rattle.ndarray.proofs.cells.Cells.{along-row_order}

filter_map-joined : {X Y : Type 0} (f : X → Option Y) (xss : List (List X)) → joined (map (filter_map f) xss) ≡ filter_map f (joined xss)
filter_map-joined f [] = refl
filter_map-joined f (xs ∷ xss) = ap (λ l. filter_map f xs ++ l) (filter_map-joined f xss) ∙ sym (filter_map-append f xs (joined xss))

pub cells-by_rows : {A : Type 0} (g : Grid A) → IsGrid g → joined (map (filter_map (cell g)) (rows_in RowMajor g.lengths)) ≡ g.cells
cells-by_rows g whole =
    filter_map-joined (cell g) (rows_in RowMajor g.lengths) ∙ (ap (filter_map (cell g)) (rows-joined RowMajor g.lengths) ∙ along-row_order g whole)
