-- What a table is, by how it keeps its cells.
use Rattle.std.proofs.Common.{◌≡◌, ℕ, ◌<◌, List, [], Some, None, length, get_or, map, reverse, refl, sym, ◌∙◌, ap, arith, subst}
use Rattle.std.specs.Prelude.{slice_get, Option}
use Rattle.std.specs.Option.{option_map}
use Rattle.std.proofs.lemmas.List.{length-map}
use Rattle.ndarray.specs.Grid.{Grid, IsGrid, cell, beside, grid}
use Rattle.ndarray.specs.Index.{InBox, IsBefore, IsBeforeFromLast, size, row_order}
use Rattle.ndarray.specs.Orders.{box_in, cells_in}
use Rattle.ndarray.specs.base.Ranks.{rank_in}
use Rattle.ndarray.specs.declared.base.shape.Order.{Order}
use Rattle.ndarray.specs.declared.base.shape.Order.TheVariants.{RowMajor, ColumnMajor}
use Rattle.ndarray.proofs.callers.Cells.{beside-at, cells_in-HasInOrder, same_grid, tabulate-is}
use Rattle.ndarray.proofs.callers.IndexLists.{IsBefore-not_itself, box_in-at, box_in-is, length-box_in, rank_in-lt}
use Rattle.std.proofs.lemmas.Option.{slice_get-map, slice_get-get_or}
use Rattle.ndtables.specs.Stored.{stored_array}

module _ {A : Type 0} where
  beside-box : (o : Order) (ns : List ℕ) (xs : List A) (k : ℕ) → length xs ≡ length (box_in o ns) → k < length (box_in o ns) → beside (box_in o ns) xs (get_or (box_in o ns) k []) ≡ slice_get xs k
  beside-box RowMajor ns xs k same lt = beside-at IsBefore IsBefore-not_itself (box_in RowMajor ns) xs k [] (box_in-is RowMajor ns).rising same lt
  beside-box ColumnMajor ns xs k same lt = beside-at IsBeforeFromLast (λ is. IsBefore-not_itself (reverse is)) (box_in ColumnMajor ns) xs k [] (box_in-is ColumnMajor ns).rising same lt

  Some-inner : (x : Option A) (y : Option A) → Some x ≡ option_map Some y → x ≡ y
  Some-inner x None h = cc
  Some-inner x (Some y) h = cc

  -- where the cells along the box are xs, beside an index list stands its cell
  pub cell-beside : (o : Order) (g : Grid A) (xs : List A) → map (cell g) (box_in o g.lengths) ≡ map Some xs → (is : List ℕ) → InBox g.lengths is → cell g is ≡ beside (box_in o g.lengths) xs is
  cell-beside o g xs h is in_box =
      let ns = g.lengths in
      let jss = box_in o ns in
      let k = rank_in o ns is in
      let same : length xs ≡ length jss = sym (length-map xs Some) ∙ (ap length (sym h) ∙ length-map jss (cell g)) in
      let lt : k < length jss = let a = rank_in-lt o ns is in_box in let b = length-box_in o ns in omega arith in
      let here : get_or jss k [] ≡ is = box_in-at o ns is [] in_box in
      let read : slice_get jss k ≡ Some is = slice_get-get_or jss k [] lt ∙ ap Some here in
      let both : Some (cell g is) ≡ option_map Some (slice_get xs k) =
      sym (slice_get-map (cell g) jss k ∙ ap (option_map (cell g)) read) ∙ (ap (λ z. slice_get z k) h ∙ slice_get-map Some xs k) in
      Some-inner (cell g is) (slice_get xs k) both
      ∙ (sym (beside-box o ns xs k same lt) ∙ ap (beside jss xs) here)

  -- an array is that of its cells in the order
  pub stored_array-is : (o : Order) (g : Grid A) (ns : List ℕ) (xs : List A) → IsGrid g → g.lengths ≡ ns → map (cell g) (box_in o g.lengths) ≡ map Some xs → g ≡ stored_array o ns xs
  stored_array-is o g ns xs whole e h =
      tabulate-is g ns (beside (box_in o ns) xs) whole e (λ is in_box. subst (λ z. cell g is ≡ beside (box_in o z) xs is) e (cell-beside o g xs h is in_box))

  -- an array with its cells in row order
  pub grid-is : (g : Grid A) (ns : List ℕ) (xs : List A) → IsGrid g → g.lengths ≡ ns → length xs ≡ size ns → map (cell g) (row_order g.lengths) ≡ map Some xs → g ≡ grid ns xs
  unfolding cell
  grid-is g ns xs whole e same h =
      same_grid g (grid ns xs) whole same e (λ is in_box. subst (λ z. cell g is ≡ beside (row_order z) xs is) e (cell-beside RowMajor g xs h is in_box))

  -- in row order the cells are kept as they are
  pub stored_array-rows : (ns : List ℕ) (xs : List A) → length xs ≡ size ns → stored_array RowMajor ns xs ≡ grid ns xs
  unfolding cell
  stored_array-rows ns xs same = sym (tabulate-is (grid ns xs) ns (beside (row_order ns) xs) same refl (λ is in_box. refl))

  -- the cells in an order, one for each index list
  pub cells_in-list : (o : Order) (g : Grid A) → IsGrid g → map (cell g) (box_in o g.lengths) ≡ map Some (cells_in o g)
  cells_in-list o g whole = cells_in-HasInOrder o g whole (box_in o g.lengths) (box_in-is o g.lengths)

  pub length-cells_in : (o : Order) (g : Grid A) → IsGrid g → length (cells_in o g) ≡ size g.lengths
  length-cells_in o g whole =
      sym (length-map (cells_in o g) Some) ∙ (ap length (sym (cells_in-list o g whole)) ∙ (length-map (box_in o g.lengths) (cell g) ∙ length-box_in o g.lengths))
