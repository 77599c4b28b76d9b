-- The cells of an array, and along a list of index lists.
use Rattle.std.proofs.Common.{◌≡◌, ℕ, List, [], ◌∷◌, ◌++◌, length, map, take, drop, replicate, get_or, Option, Some, None, refl, sym, ◌∙◌, ap, arith, subst}
use Rattle.std.specs.Prelude.{filter_map, slice_get, All}
use Rattle.std.proofs.lemmas.List.Elements.{All-same, All-replicate, filter_map-append, All-head, All-tail}
use Rattle.std.specs.Option.{option_map}
use Rattle.std.proofs.lemmas.Option.{slice_get-get_or, slice_get-map, get_or_from_slice_get}
use Rattle.std.proofs.lemmas.List.{length-map}
use Rattle.ndarray.specs.Index.{InBox, row_order, size, IsBefore}
use Rattle.ndarray.specs.Grid.{Grid, grid, beside, cell, IsGrid, HasCells, tabulate, cells_by, IsKnownByCells, array_by}
use Rattle.ndarray.specs.base.Ranks.{rank, rank_in}
use Rattle.ndarray.proofs.lists.Elements.{same_from_slice_get, length-filter_map_all, slice_get-filter_map_all, slice_get-Some, filter_map-same, filter_map-full, map-from_filter_map, map-same, filter_map-take_all, filter_map-drop_all, replicate-is}
use Rattle.ndarray.proofs.boxes.Orders.{length-row_order, row_order-is, row_order-at, row_order-back, rank-lt, rank_in-lt, box_in-at, box_in-is, box_in-within, length-box_in, IsBefore-not_itself}
use Rattle.ndarray.specs.Orders.{box_in, cells_in, HasInOrder}
use Rattle.ndarray.specs.declared.base.shape.Order.{Order}
use Rattle.ndarray.specs.declared.base.shape.Order.TheVariants.{RowMajor}
use Rattle.ndarray.proofs.boxes.UniqueOrder.{box_in-unique}
use Rattle.ndarray.proofs.lists.CellLookup.{beside-at, beside-contains, beside-none}

module _ {A : Type 0} (g : Grid A) (whole : IsGrid g) where
  pub cell-within : (is : List ℕ) → InBox g.lengths is → cell g is ≡ slice_get g.cells (rank g.lengths is)
  unfolding cell
  cell-within is b =
      let l = length-row_order g.lengths in
      let lt = rank-lt g.lengths is b in
      ap (beside (row_order g.lengths) g.cells) (sym (row_order-at g.lengths is is b))
      ∙ beside-at IsBefore IsBefore-not_itself (row_order g.lengths) g.cells (rank g.lengths is) is (row_order-is g.lengths).rising (omega arith) (omega arith)

  pub cell-Some : (is : List ℕ) → InBox g.lengths is → (x : A) × (cell g is ≡ Some x)
  cell-Some is b =
      let lt = rank-lt g.lengths is b in
      let s = slice_get-Some g.cells (rank g.lengths is) (omega arith) in
      (s.0, cell-within is b ∙ s.1)

  pub all-cells : (ys : List (List ℕ)) → All (InBox g.lengths) ys → All (λ is. (x : A) × (cell g is ≡ Some x)) ys
  all-cells ys h k d lt = cell-Some _ (h k d lt)

  pub length-along : (ys : List (List ℕ)) → All (InBox g.lengths) ys → length (filter_map (cell g) ys) ≡ length ys
  length-along ys h = length-filter_map_all (cell g) ys (all-cells ys h)

  -- along row order they are the array's list
  pub along-row_order : filter_map (cell g) (row_order g.lengths) ≡ g.cells
  along-row_order =
      let l = length-row_order g.lengths in
      let within = (row_order-is g.lengths).within in
      let la = length-along (row_order g.lengths) within in
      same_from_slice_get (filter_map (cell g) (row_order g.lengths)) g.cells (omega arith)
      (λ k lt.
      let b = row_order-back g.lengths k [] (omega arith) in
      slice_get-filter_map_all (cell g) (row_order g.lengths) k [] (all-cells (row_order g.lengths) within) (omega arith)
      ∙ (cell-within (get_or (row_order g.lengths) k []) b.0 ∙ ap (slice_get g.cells) b.1))

-- what they are along an order that is row order
pub cells-row_major : {A : Type 0} (o : Order) (g : Grid A) (xs : List A) → IsGrid g → cells_in o g ≡ xs → o ≡ RowMajor → g.cells ≡ xs
cells-row_major o g xs whole e rows = sym (along-row_order g whole) ∙ (ap (λ p. cells_in p g) (sym rows) ∙ e)

-- outside the box there is no cell
pub cell-outside : {A : Type 0} (g : Grid A) (is : List ℕ) → (InBox g.lengths is → ⊥) → cell g is ≡ None
unfolding cell
cell-outside g is h = beside-none (row_order g.lengths) g.cells is (λ c. h (subst (InBox g.lengths) c.2 ((row_order-is g.lengths).within c.0 is c.1)))

-- so a cell is in the box
pub cell-inside : {A : Type 0} (g : Grid A) (is : List ℕ) (x : A) → cell g is ≡ Some x → InBox g.lengths is
unfolding cell
cell-inside g is x e = let c = beside-contains (row_order g.lengths) g.cells is x e in subst (InBox g.lengths) c.2 ((row_order-is g.lengths).within c.0 is c.1)

-- the first, and the last, of what is to come
pub along-first : {A : Type 0} (g : Grid A) (ys rest : List (List ℕ)) (is : List ℕ) (x : A) → ys ≡ is ∷ rest → cell g is ≡ Some x → filter_map (cell g) ys ≡ x ∷ filter_map (cell g) rest
along-first g ys rest is x e s = rw (e, s) refl

pub along-last : {A : Type 0} (g : Grid A) (ys rest : List (List ℕ)) (is : List ℕ) (x : A) → ys ≡ rest ++ is ∷ [] → cell g is ≡ Some x → filter_map (cell g) ys ≡ filter_map (cell g) rest ++ x ∷ []
along-last g ys rest is x e s = rw e (filter_map-append (cell g) rest (is ∷ []) ∙ rw s refl)

-- what is left of a list with the array's cells has them too
pub HasCells-first : {A : Type 0} (g : Grid A) (ys rest : List (List ℕ)) (is : List ℕ) → ys ≡ is ∷ rest → HasCells g ys → InBox g.lengths is × HasCells g rest
HasCells-first g ys rest is e h =
    let w : All (InBox g.lengths) (is ∷ rest) = subst (All (InBox g.lengths)) e h.within in
    (All-head (InBox g.lengths) is rest w, record { whole = h.whole; within = All-tail (InBox g.lengths) is rest w })

pub HasCells-row_order : {A : Type 0} (g : Grid A) → IsGrid g → HasCells g (row_order g.lengths)
HasCells-row_order g w = record { whole = w; within = (row_order-is g.lengths).within }

pub HasCells-box_in : {A : Type 0} (o : Order) (g : Grid A) → IsGrid g → HasCells g (box_in o g.lengths)
HasCells-box_in o g w = record { whole = w; within = box_in-within o g.lengths }

pub tabulate-is : {A : Type 0} (g : Grid A) (ns : List ℕ) (f : List ℕ → Option A) → IsGrid g → g.lengths ≡ ns → ((is : List ℕ) → InBox g.lengths is → cell g is ≡ f is) → g ≡ tabulate ns f
unfolding cells_by
tabulate-is g ns f whole e h =
    ap (grid g.lengths) (sym (along-row_order g whole) ∙ filter_map-same (cell g) f (InBox g.lengths) (row_order g.lengths) h (row_order-is g.lengths).within)
    ∙ ap (λ ms. grid ms (filter_map f (row_order ms))) e

-- two arrays with the same lengths and cells are equal
pub same_grid : {A : Type 0} (g h : Grid A) → IsGrid g → IsGrid h → g.lengths ≡ h.lengths → ((is : List ℕ) → InBox g.lengths is → cell g is ≡ cell h is) → g ≡ h
same_grid g h wg wh e c = tabulate-is g h.lengths (cell h) wg e c ∙ sym (tabulate-is h h.lengths (cell h) wh refl (λ is b. refl))

pub known-by_cells : {A : Type 0} (g : Grid A) → IsGrid g → IsKnownByCells g
known-by_cells g whole h wh e c = same_grid h g wh whole e (λ is b. c is (subst (λ ns. InBox ns is) e b))

-- the cells along an order of the box, from those along the list that is it
pub HasInOrder-from : {A : Type 0} (o : Order) (g : Grid A) (xs : List A) → map (cell g) (box_in o g.lengths) ≡ map Some xs → HasInOrder o g xs
HasInOrder-from o g xs e is order = ap (map (cell g)) (box_in-unique o g.lengths is (box_in o g.lengths) order (box_in-is o g.lengths)) ∙ e

pub cells_in-HasInOrder : {A : Type 0} (o : Order) (g : Grid A) → IsGrid g → HasInOrder o g (cells_in o g)
cells_in-HasInOrder o g whole = HasInOrder-from o g (cells_in o g) (map-from_filter_map (cell g) (box_in o g.lengths) (all-cells g whole (box_in o g.lengths) (box_in-within o g.lengths)))

-- what holds of each cell along an order holds of each cell
pub All-cells : {A : Type 0} (P : A → Type 0) (o : Order) (g : Grid A) → IsGrid g → All P (cells_in o g) → All P g.cells
All-cells P o g whole h k d lt =
    let b = row_order-back g.lengths k [] (omega arith) in
    let is = get_or (row_order g.lengths) k [] in
    let j = rank_in o g.lengths is in
    let below = rank_in-lt o g.lengths is b.0 in
    let all = all-cells g whole (box_in o g.lengths) (box_in-within o g.lengths) in
    let l = length-box_in o g.lengths in
    let lc = length-along g whole (box_in o g.lengths) (box_in-within o g.lengths) in
    let here = slice_get-filter_map_all (cell g) (box_in o g.lengths) j [] all (omega arith)
    ∙ (ap (cell g) (box_in-at o g.lengths is [] b.0) ∙ (cell-within g whole is b.0 ∙ (ap (slice_get g.cells) b.1 ∙ slice_get-get_or g.cells k d lt))) in
    subst P (get_or_from_slice_get (cells_in o g) j (get_or g.cells k d) d here) (h j d (omega arith))

-- cells that are all the same along an order are all the same
pub cells-alike : {A : Type 0} (x : A) (n : ℕ) (o : Order) (g : Grid A) → IsGrid g → cells_in o g ≡ replicate n x → g.cells ≡ replicate (size g.lengths) x
cells-alike x n o g whole e =
    let P = λ (y : _). y ≡ x in
    replicate-is x g.cells (All-cells P o g whole (All-same P _ _ e (All-replicate P n x refl))) ∙ ap (λ m. replicate m x) whole

-- ---- arrays that have a function of each index list

module _ {A : Type 0} where
  pub array_by-whole : (ns : List ℕ) (f : List ℕ → A) → IsGrid (array_by ns f)
  array_by-whole ns f = length-map (row_order ns) f ∙ length-row_order ns

  pub array_by-cell : (ns : List ℕ) (f : List ℕ → A) (is : List ℕ) → InBox ns is → cell (array_by ns f) is ≡ Some (f is)
  array_by-cell ns f is b =
      let l = length-row_order ns in
      let lt = rank-lt ns is b in
      cell-within (array_by ns f) (array_by-whole ns f) is b
      ∙ (slice_get-map f (row_order ns) (rank ns is)
      ∙ ap (option_map f) (slice_get-get_or (row_order ns) (rank ns is) [] (omega arith) ∙ ap (λ js. Some js) (row_order-at ns is [] b)))

  pub array_by-same : (ns ms : List ℕ) (f h : List ℕ → A) → ns ≡ ms → ((is : List ℕ) → InBox ns is → f is ≡ h is) → array_by ns f ≡ array_by ms h
  array_by-same ns ms f h e same = ap (grid ns) (map-same f h (InBox ns) (row_order ns) same (row_order-is ns).within) ∙ ap (λ ks. array_by ks h) e

-- ---- the first items, and the others

pub along-take : {A : Type 0} (g : Grid A) (ys : List (List ℕ)) (n : ℕ) → HasCells g ys → filter_map (cell g) (take n ys) ≡ take n (filter_map (cell g) ys)
along-take g ys n h = filter_map-take_all (cell g) ys n (all-cells g h.whole ys h.within)

pub along-drop : {A : Type 0} (g : Grid A) (ys : List (List ℕ)) (n : ℕ) → HasCells g ys → filter_map (cell g) (drop n ys) ≡ drop n (filter_map (cell g) ys)
along-drop g ys n h = filter_map-drop_all (cell g) ys n (all-cells g h.whole ys h.within)

-- arrays of the same lengths and cells by their functions
pub tabulate-same : {A : Type 0} (ns ms : List ℕ) (f h : List ℕ → Option A) → ns ≡ ms → ((is : List ℕ) → InBox ns is → f is ≡ h is) → tabulate ns f ≡ tabulate ms h
unfolding cells_by
tabulate-same ns ms f h e same =
    ap (grid ns) (filter_map-same f h (InBox ns) (row_order ns) same (row_order-is ns).within) ∙ ap (λ ks. tabulate ks h) e

-- where a function names a cell at each index list, the array has it there
pub tabulate-cell : {A : Type 0} (ns : List ℕ) (f : List ℕ → Option A) (is : List ℕ) → IsGrid (tabulate ns f) → InBox ns is → cell (tabulate ns f) is ≡ f is
unfolding cells_by
tabulate-cell {A} ns f is whole b =
    let l = length-row_order ns in
    let lt = rank-lt ns is b in
    let e = filter_map-full f (row_order ns) (whole ∙ sym l) in
    cell-within (tabulate ns f) whole is b
    ∙ named (slice_get (filter_map f (row_order ns)) (rank ns is)) (f is)
    (sym (ap (option_map f) (slice_get-get_or (row_order ns) (rank ns is) [] (omega arith) ∙ ap (λ js. Some js) (row_order-at ns is [] b)))
    ∙ sym (slice_get-map f (row_order ns) (rank ns is))
    ∙ ap (λ ys. slice_get ys (rank ns is)) e
    ∙ slice_get-map (λ y. Some y) (filter_map f (row_order ns)) (rank ns is))
  where
    named : (o v : Option A) → Some v ≡ option_map (λ y. Some y) o → o ≡ v
    named None v e = absurd (cc)
    named (Some y) v e = cc
