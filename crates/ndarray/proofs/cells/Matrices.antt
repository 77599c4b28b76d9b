-- Rows and columns of an array as lists of values.
use Rattle.std.proofs.Common.{◌≡◌, ℕ, zero, suc, ◌<◌, List, [], ◌∷◌, map, length, get_or, remove, insert, Option, Some, None, refl, sym, ap, ◌∙◌, subst, arith, add-one}
use Rattle.std.specs.Prelude.{slice_get}
use Rattle.std.specs.List.{range_with_len}
use Rattle.std.specs.Option.{option_map}
use Rattle.std.proofs.lemmas.List.{length-map}
use Rattle.std.proofs.lemmas.Option.{slice_get-map}
use Rattle.ndarray.specs.Grid.{Grid, IsGrid, cell}
use Rattle.ndarray.specs.Index.{InBox, row_order, size}
use Rattle.ndarray.specs.Matrices.{values_below}
use Rattle.ndarray.specs.Products.{value_or}
use Rattle.ndarray.specs.Views.{axis_item}
use Rattle.ndarray.specs.base.Ranks.{rank, row_from}
use Rattle.ndarray.specs.declared.base.shape.Order.TheVariants.{RowMajor}
use Rattle.ndarray.proofs.boxes.Orders.{row_order-one}
use Rattle.ndarray.proofs.boxes.Walks.{rank_in-one}
use Rattle.ndarray.proofs.cells.Cells.{cell-Some, cell-within, tabulate-cell}
use Rattle.ndarray.proofs.lists.Elements.{same_from_slice_get}
use Rattle.ndarray.proofs.sums.InnerSums.{length-below}

pub one-length : (ns : List ℕ) → length ns ≡ 1 → ns ≡ get_or ns 0 0 ∷ []
one-length [] e = absurd (omega (arith, e))
one-length (n ∷ []) e = refl
one-length (n ∷ m ∷ ns) e = absurd (omega (arith, e))

pub two-lengths : (ns : List ℕ) → length ns ≡ 2 → ns ≡ get_or ns 0 0 ∷ get_or ns 1 0 ∷ []
two-lengths [] e = absurd (omega (arith, e))
two-lengths (n ∷ []) e = absurd (omega (arith, e))
two-lengths (n ∷ m ∷ []) e = refl
two-lengths (n ∷ m ∷ k ∷ ns) e = absurd (omega (arith, e))

below-at : {C : Type 0} (n : ℕ) (f : ℕ → C) (k : ℕ) → k < n → slice_get (values_below n f) k ≡ Some (f k)
below-at zero f k lt = absurd (omega arith)
below-at (suc n) f zero lt = refl
below-at (suc n) f (suc k) lt = below-at n (λ i. f (suc i)) k (omega arith)

pub below-same : {C : Type 0} (n : ℕ) (f h : ℕ → C) → ((k : ℕ) → k < n → f k ≡ h k) → values_below n f ≡ values_below n h
below-same zero f h e = refl
below-same (suc n) f h e =
    ap (λ c. c ∷ values_below n (λ i. f (suc i))) (e 0 (omega arith))
    ∙ ap (λ l. h 0 ∷ l) (below-same n (λ i. f (suc i)) (λ i. h (suc i)) (λ k lt. e (suc k) (omega arith)))

module _ {A C : Type 0} (v : A → C) (d : C) where
  some-value : (o : Option A) (x : A) → o ≡ Some x → option_map v o ≡ Some (value_or v d o)
  some-value None x e = absurd (cc)
  some-value (Some y) x e = refl

  -- a vector's cells
  pub vector-values : (g : Grid A) → IsGrid g → length g.lengths ≡ 1 → map v g.cells ≡ values_below (get_or g.lengths 0 0) (λ k. value_or v d (cell g (k ∷ [])))
  vector-values g whole one =
      let n = get_or g.lengths 0 0 in
      let ns = one-length g.lengths one in
      let long : length g.cells ≡ n = (let s = whole ∙ ap size ns in omega (arith, s)) in
      let many = length-map g.cells v in
      let below = length-below n (λ k. value_or v d (cell g (k ∷ []))) in
      same_from_slice_get (map v g.cells) (values_below n (λ k. value_or v d (cell g (k ∷ [])))) (omega (arith, long, many, below))
      (λ k lt.
      let small : k < n = omega (arith, lt, many, long) in
      let b : InBox g.lengths (k ∷ []) = subst (λ ms. InBox ms (k ∷ [])) (sym ns) (small, tt) in
      let (x, at) = cell-Some g whole (k ∷ []) b in
      let place : slice_get g.cells k ≡ cell g (k ∷ []) = sym (cell-within g whole (k ∷ []) b ∙ ap (slice_get g.cells) (ap (λ ms. rank ms (k ∷ [])) ns ∙ rank_in-one RowMajor n k)) in
      slice_get-map v g.cells k ∙ (ap (option_map v) place ∙ (some-value (cell g (k ∷ [])) x at ∙ sym (below-at n (λ i. value_or v d (cell g (i ∷ []))) k small))))

  -- the cells of row i, and of column j, of an array of two axes
  module _ (g r : Grid A) (two : length g.lengths ≡ 2) (whole : IsGrid r) where
    pub row-values : (i : ℕ) → r ≡ axis_item g 0 i → map v r.cells ≡ values_below (get_or g.lengths 1 0) (λ k. value_or v d (cell g (i ∷ k ∷ [])))
    row-values i e =
        let ns = two-lengths g.lengths two in
        let ms : r.lengths ≡ get_or g.lengths 1 0 ∷ [] = ap (λ w. w.lengths) e ∙ ap (λ l. remove l 0) ns in
        vector-values r whole (ap length ms)
        ∙ (ap (λ n. values_below n (λ k. value_or v d (cell r (k ∷ [])))) (ap (λ l. get_or l 0 0) ms)
        ∙ below-same (get_or g.lengths 1 0) _ _
        (λ k lt. ap (value_or v d) (ap (λ w. cell w (k ∷ [])) e ∙ tabulate-cell (remove g.lengths 0) (λ is. cell g (insert is 0 i)) (k ∷ []) (subst IsGrid e whole) (subst (λ l. InBox l (k ∷ [])) (sym (ap (λ l. remove l 0) ns)) (lt, tt)))))

    pub column-values : (j : ℕ) → r ≡ axis_item g 1 j → map v r.cells ≡ values_below (get_or g.lengths 0 0) (λ k. value_or v d (cell g (k ∷ j ∷ [])))
    column-values j e =
        let ns = two-lengths g.lengths two in
        let ms : r.lengths ≡ get_or g.lengths 0 0 ∷ [] = ap (λ w. w.lengths) e ∙ ap (λ l. remove l 1) ns in
        vector-values r whole (ap length ms)
        ∙ (ap (λ n. values_below n (λ k. value_or v d (cell r (k ∷ [])))) (ap (λ l. get_or l 0 0) ms)
        ∙ below-same (get_or g.lengths 0 0) _ _
        (λ k lt. ap (value_or v d) (ap (λ w. cell w (k ∷ [])) e ∙ tabulate-cell (remove g.lengths 1) (λ is. cell g (insert is 1 j)) (k ∷ []) (subst IsGrid e whole) (subst (λ l. InBox l (k ∷ [])) (sym (ap (λ l. remove l 1) ns)) (lt, tt)))))

row-from : (i n : ℕ) → row_from (i ∷ []) 0 n ≡ map (λ k. k ∷ []) (range_with_len i n)
row-from i zero = refl
row-from i (suc n) = ap (λ l. (i ∷ []) ∷ l) (rw add-one (row-from (suc i) n))

-- the index lists of a vector, one after another
pub row-one : (n : ℕ) → row_from (0 ∷ []) 0 n ≡ row_order (n ∷ [])
row-one n = row-from 0 n ∙ sym (row_order-one n)
