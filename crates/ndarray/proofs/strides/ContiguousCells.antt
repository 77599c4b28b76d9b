-- Cells that lie side by side: those of a run of elements.
use Rattle.std.proofs.Common.{◌≡◌, ℕ, ◌+◌, ◌-◌, ◌<◌, ◌≤◌, suc, zero, List, [], ◌∷◌, length, map, take, drop, get_or, Option, Some, None, refl, sym, ◌∙◌, ap, arith, subst}
use Rattle.std.specs.Prelude.{slice_get, IsTrue, reverse, filter_map}
use Rattle.std.specs.Option.{is_some}
use Rattle.std.proofs.lemmas.List.{length-take-le, length-drop, get_or-drop, get_or-take, length-map}
use Rattle.ndarray.specs.Index.{InBox, size, row_order, column_order}
use Rattle.ndarray.specs.Grid.{Grid, IsGrid, cell, cells_by}
use Rattle.ndarray.specs.Orders.{cells_in}
use Rattle.ndarray.specs.Views.{transpose_of}
use Rattle.ndarray.specs.declared.base.shape.Order.TheVariants.{RowMajor, ColumnMajor}
use Rattle.ndarray.specs.base.Ranks.{rank}
use Rattle.ndarray.specs.base.Places.{place, cells_at, Reaches}
use Rattle.ndarray.specs.base.Slots.{held_at, IsRun}
use Rattle.ndarray.proofs.lists.Elements.{same_from_slice_get, some-of}
use Rattle.ndarray.proofs.cells.Cells.{along-row_order}
use Rattle.ndarray.proofs.boxes.Orders.{row_order-back}
use Rattle.ndarray.proofs.strides.Reach.{length-cells_at, slice_get-cells_at}
use Rattle.ndarray.proofs.regions.Slots.{filled_within, held-slice}

module _ {X : Type 0} where
  -- a place that has an element is one of the slice
  pub slice-within : (xs : List X) (k : ℕ) → IsTrue (is_some (slice_get xs k)) → k < length xs
  slice-within [] k h = absurd (cc)
  slice-within (x ∷ xs) zero h = omega arith
  slice-within (x ∷ xs) (suc k) h = let ih = slice-within xs k h in omega arith

  -- a list of values that are all there
  values : (cs : List (Option X)) → ((k : ℕ) → k < length cs → IsTrue (is_some (held_at cs k))) → (xs : List X) × (cs ≡ map Some xs)
  values [] h = ([], refl)
  values (None ∷ cs) h = absurd (let e = h 0 (omega arith) in cc)
  values (Some x ∷ cs) h = let r = values cs (λ k lt. h (suc k) (omega arith)) in (x ∷ r.0, ap (λ l. Some x ∷ l) r.1)

  -- places that are all held are a run
  pub IsRun-held : (cs : List (Option X)) (from len : ℕ) → 0 < len → ((k : ℕ) → k < len → IsTrue (is_some (held_at cs (from + k)))) → IsRun cs from len
  IsRun-held cs from len some h =
      let last = some-of (held_at cs (from + (len - 1))) (h (len - 1) (omega arith)) in
      let w = filled_within cs (from + (len - 1)) last.0 last.1 in
      let rest = length-drop from cs in
      let long = length-take-le len (drop from cs) (omega arith) in (
        omega arith,
        values (take len (drop from cs)) (λ k lt.
            let there : held_at (take len (drop from cs)) k ≡ held_at cs (from + k) = held-run cs from len k (omega arith) (omega arith) in
            subst (λ o. IsTrue (is_some o)) (sym there) (h k (omega arith))),
      )
    where
      held-run : (cs : List (Option X)) (from len k : ℕ) → k < len → from + len ≤ length cs → held_at (take len (drop from cs)) k ≡ held_at cs (from + k)
      held-run cs from len k lt w =
          let rest = length-drop from cs in
          let long = length-take-le len (drop from cs) (omega arith) in
          get_or-take len (drop from cs) k None lt ∙ get_or-drop from cs k None

module _ {A one : Type 0} (at : ℕ → Option A) (ns : List ℕ) (start : ℕ) (bs : List ℕ) (h : Reaches one at ns start bs)
    (beside : (is : List ℕ) → InBox ns is → place start bs is ≡ start + rank ns is) where
  -- the k-th cell lies k places after the start
  pub side-at : (k : ℕ) → k < size ns → slice_get (cells_at at ns start bs) k ≡ at (start + k)
  side-at k lt =
      let back = row_order-back ns k [] lt in
      let here = beside (get_or (row_order ns) k []) back.0 ∙ ap (λ j. start + j) back.1 in
      slice_get-cells_at at ns start bs h k lt ∙ ap at here

  pub side-there : (k : ℕ) → k < size ns → IsTrue (is_some (at (start + k)))
  side-there k lt =
      let back = row_order-back ns k [] lt in
      let here = beside (get_or (row_order ns) k []) back.0 ∙ ap (λ j. start + j) back.1 in
      subst (λ p. IsTrue (is_some (at p))) here (h.inside (get_or (row_order ns) k []) back.0)

  -- a list of as many elements from the start on has the cells
  pub side-cells : (xs : List A) (len : ℕ) → len ≡ size ns → length xs ≡ len → ((k : ℕ) → k < len → slice_get xs k ≡ at (start + k)) → xs ≡ cells_at at ns start bs
  side-cells xs len el l each =
      let many = length-cells_at at ns start bs h in
      same_from_slice_get xs (cells_at at ns start bs) (omega arith) (λ k lt. each k (omega arith) ∙ sym (side-at k (omega arith)))

module _ {X Y Z : Type 0} (f : Y → Option Z) (h : X → Y) where
  first-mapped : (x : X) (l : List Y) (m : List X) (o : Option Z) → f (h x) ≡ o → filter_map f l ≡ filter_map (λ y. f (h y)) m → filter_map f (h x ∷ l) ≡ filter_map (λ y. f (h y)) (x ∷ m)
  first-mapped x l m None e ih = rw e ih
  first-mapped x l m (Some z) e ih = rw e (ap (λ k. z ∷ k) ih)

  pub filter_map-map : (xs : List X) → filter_map f (map h xs) ≡ filter_map (λ x. f (h x)) xs
  filter_map-map [] = refl
  filter_map-map (x ∷ xs) = first-mapped x (map h xs) xs (f (h x)) refl (filter_map-map xs)

-- the cells of the transposed array in row order are those of the array in column order
pub transpose_of-cells : {A : Type 0} (g : Grid A) → (transpose_of g).cells ≡ cells_in ColumnMajor g
unfolding column_order cells_by
transpose_of-cells g = sym (filter_map-map (cell g) reverse (row_order (reverse g.lengths)))

module _ {X : Type 0} where
  -- the elements of a run of held places
  pub held-part : (cs : List (Option X)) (from len : ℕ) (xs : List X) → from + len ≤ length cs → take len (drop from cs) ≡ map Some xs
      → (length xs ≡ len) × ((k : ℕ) → k < len → slice_get xs k ≡ held_at cs (from + k))
  held-part cs from len xs w e =
      let rest = length-drop from cs in
      let long = length-take-le len (drop from cs) (omega arith) in
      let l : length (take len (drop from cs)) ≡ length (map Some xs) = ap length e in
      let m : length (map Some xs) ≡ length xs = length-map xs (λ x. Some x) in
      let many : length xs ≡ len = omega arith in (
        many,
        λ k lt.
            let there : get_or (map Some xs) k None ≡ held_at cs (from + k) = ap (λ l. get_or l k None) (sym e) ∙ (get_or-take len (drop from cs) k None lt ∙ get_or-drop from cs k None) in
            sym (held-slice (map Some xs) xs refl k) ∙ there,
      )

pub row-cells : {A : Type 0} (g : Grid A) → IsGrid g → cells_in RowMajor g ≡ g.cells
row-cells g whole = along-row_order g whole
