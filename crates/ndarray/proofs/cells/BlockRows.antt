-- The rows of a Kronecker product, from those of its two matrices.
use Rattle.std.proofs.Common.{◌≡◌, ◌∙◌, ℕ, ◌+◌, ◌*◌, ◌/◌, ◌%◌, ◌<◌, List, [], ◌∷◌, All, ap, arith, get_or, length, map, refl, subst, sym}
use Rattle.std.specs.Prelude.{flat_map}
use Rattle.std.specs.List.{range_with_len}
use Rattle.std.proofs.lemmas.List.Elements.{All-map}
use Rattle.std.proofs.lemmas.List.Folds.{flat_map-map}
use Rattle.std.proofs.lemmas.Nat.{div-mul-add, mod-mul-add}
use Rattle.std.proofs.lemmas.Simd.{map-map}
use Rattle.ndarray.specs.linalg.BlockRows.{CanMultiplyEach, block_rows, multiples_by}
use Rattle.ndarray.specs.Grid.{Grid, IsGrid}
use Rattle.ndarray.specs.Index.{row_order}
use Rattle.ndarray.specs.Matrices.{Matrix, kronecker_product}
use Rattle.ndarray.specs.Products.{HasProductsInRange, matrix_entries, matrix_of, value_at}
use Rattle.ndarray.specs.Subviews.{axis_items}
use Rattle.ndarray.specs.Views.{axis_item}
use Rattle.ndarray.specs.declared.elements.Valued.{Ghosts as ValuedGhosts}
use Rattle.ndarray.proofs.boxes.Orders.{row_order-one}
use Rattle.ndarray.proofs.cells.Matrices.{row-values}
use Rattle.ndarray.proofs.sums.RowSums.{map-range-below}
use Rattle.ndarray.proofs.lists.Elements.{map-same, mapped-all}
use Rattle.ndarray.proofs.lists.FlatMaps.{flat_map-same, map-flat_map}
use Rattle.ndarray.proofs.lists.Ranges.{All-range, flat_map-blocks, flat_map-range, map-blocks}
use Rattle.ndarray.proofs.views.WholeItems.{item-whole}

-- what is listed at the index lists of two axes, row by row
entries-in_row_order : {C : Type 0} (f : List ℕ → C) (p q : ℕ) → map f (row_order (p ∷ q ∷ [])) ≡ flat_map (λ i. map (λ j. f (i ∷ j ∷ [])) (range_with_len 0 q)) (range_with_len 0 p)
unfolding row_order
entries-in_row_order f p q =
    map-flat_map f (λ i. map (λ is. i ∷ is) (row_order (q ∷ []))) (range_with_len 0 p)
    ∙ flat_map-same _ _
    (λ i. map-map f (λ is. i ∷ is) (row_order (q ∷ []))
    ∙ (ap (map (λ is. f (i ∷ is))) (row_order-one q) ∙ map-map (λ is. f (i ∷ is)) (λ j. j ∷ []) (range_with_len 0 q)))
    (range_with_len 0 p)

-- the same value, by four numbers that are equal
of-four : {C : Type 0} (f : ℕ → ℕ → ℕ → ℕ → C) (i j k t p q u v : ℕ) → p ≡ i → q ≡ j → u ≡ k → v ≡ t → f i j k t ≡ f p q u v
of-four f i j k t p q u v e1 e2 e3 e4 = sym (ap (λ x. f x q u v) e1 ∙ (ap (λ x. f i x u v) e2 ∙ (ap (λ x. f i j x v) e3 ∙ ap (f i j k) e4)))

module _ {A : Type 0} (e : ValuedGhosts A) where
  -- the products of two rows, from their values
  rows-multiplied : (xs ys : List A) (f h : ℕ → e.Carrier) (n r : ℕ) → map e.meaning xs ≡ map f (range_with_len 0 n) → map e.meaning ys ≡ map h (range_with_len 0 r)
      → multiples_by e xs ys ≡ flat_map (λ j. map (λ t. e.multiplication.op (f j) (h t)) (range_with_len 0 r)) (range_with_len 0 n)
  rows-multiplied xs ys f h n r left right =
      let by : e.Carrier → List e.Carrier = λ u. map (e.multiplication.op u) (map e.meaning ys) in
      flat_map-same _ _ (λ x. sym (map-map (e.multiplication.op (e.meaning x)) e.meaning ys)) xs
      ∙ (sym (flat_map-map by e.meaning xs)
      ∙ (ap (flat_map by) left
      ∙ (flat_map-map by f (range_with_len 0 n)
      ∙ flat_map-same _ _ (λ j. ap (map (e.multiplication.op (f j))) right ∙ map-map (e.multiplication.op (f j)) h (range_with_len 0 r)) (range_with_len 0 n))))

  module _ (g : Grid A) (two : length g.lengths ≡ 2) (whole : IsGrid g) where
    -- the values of a row
    row-range : (i : ℕ) → i < get_or g.lengths 0 0 → map e.meaning (axis_item g 0 i).cells ≡ map (λ j. value_at e g (i ∷ j ∷ [])) (range_with_len 0 (get_or g.lengths 1 0))
    row-range i lt = row-values e.meaning e.addition.unit g (axis_item g 0 i) two (item-whole g whole 0 i (omega (arith, two)) lt) i refl ∙ sym (map-range-below (λ j. value_at e g (i ∷ j ∷ [])) (get_or g.lengths 1 0))

  module _ (a b : Grid A) (two_a : length a.lengths ≡ 2) (two_b : length b.lengths ≡ 2) (whole_a : IsGrid a) (whole_b : IsGrid b) where
    abbrev product : Matrix e.Carrier
    product = kronecker_product e.multiplication (matrix_of e a) (matrix_of e b)

    -- the products of row i of the first and row k of the second are row i * m + k of the product, where m is the number of the second's rows
    block-row : (i k : ℕ) → i < get_or a.lengths 0 0 → k < get_or b.lengths 0 0
        → multiples_by e (axis_item a 0 i).cells (axis_item b 0 k).cells ≡ map (product.cell (i * get_or b.lengths 0 0 + k)) (range_with_len 0 (get_or a.lengths 1 0 * get_or b.lengths 1 0))
    block-row i k first second =
        let m = get_or b.lengths 0 0 in
        let n = get_or a.lengths 1 0 in
        let r = get_or b.lengths 1 0 in
        let at = λ (p q u v : ℕ). e.multiplication.op (value_at e a (p ∷ q ∷ [])) (value_at e b (u ∷ v ∷ [])) in
        rows-multiplied (axis_item a 0 i).cells (axis_item b 0 k).cells (λ j. value_at e a (i ∷ j ∷ [])) (λ t. value_at e b (k ∷ t ∷ [])) n r (row-range a two_a whole_a i first) (row-range b two_b whole_b k second)
        ∙ (flat_map-same _ _
        (λ j. map-same (at i j k) (λ t. product.cell (i * m + k) (j * r + t)) (λ t. t < r) (range_with_len 0 r)
        (λ t lt. of-four at i j k t ((i * m + k) / m) ((j * r + t) / r) ((i * m + k) % m) ((j * r + t) % r) (div-mul-add i m k second) (div-mul-add j r t lt) (mod-mul-add i m k second) (mod-mul-add j r t lt))
        (All-range (λ t. t < r) r (λ t lt. lt)))
        (range_with_len 0 n)
        ∙ sym (map-blocks (product.cell (i * m + k)) n r))

    -- the products of each row with each row are the entries of the product in row order
    pub blocks-in_row_order : flat_map (λ row. block_rows e row (axis_items b 0)) (axis_items a 0) ≡ map (matrix_entries product) (row_order (get_or a.lengths 0 0 * get_or b.lengths 0 0 ∷ get_or a.lengths 1 0 * get_or b.lengths 1 0 ∷ []))
    blocks-in_row_order =
        let l = get_or a.lengths 0 0 in
        let m = get_or b.lengths 0 0 in
        let long = get_or a.lengths 1 0 * get_or b.lengths 1 0 in
        flat_map-map (λ row. block_rows e row (axis_items b 0)) (axis_item a 0) (range_with_len 0 l)
        ∙ (flat_map-range _ _ 0 l
        (λ i _ lt. flat_map-map (λ below. multiples_by e (axis_item a 0 i).cells below.cells) (axis_item b 0) (range_with_len 0 m)
        ∙ flat_map-range _ _ 0 m (λ k _ below. block-row i k (omega (arith, lt)) (omega (arith, below))))
        ∙ (sym (flat_map-blocks (λ p. map (product.cell p) (range_with_len 0 long)) l m) ∙ sym (entries-in_row_order (matrix_entries product) (l * m) long)))

    -- each cell of a row may be multiplied by each cell of a row
    pub rows-can_multiply : HasProductsInRange e (matrix_of e a) (matrix_of e b) → All (λ row. All (λ below. CanMultiplyEach e row.cells below.cells) (axis_items b 0)) (axis_items a 0)
    rows-can_multiply products =
        let l = get_or a.lengths 0 0 in
        let m = get_or b.lengths 0 0 in
        let n = get_or a.lengths 1 0 in
        let r = get_or b.lengths 1 0 in
        All-map (λ row. All (λ below. CanMultiplyEach e row.cells below.cells) (axis_items b 0)) (axis_item a 0) (range_with_len 0 l)
        (All-range _ l
        (λ i first. All-map (λ below. CanMultiplyEach e (axis_item a 0 i).cells below.cells) (axis_item b 0) (range_with_len 0 m)
        (All-range _ m
        (λ k second.
        let ys = (axis_item b 0 k).cells in
        let by : e.Carrier → Type 0 = λ u. All (λ y. e.InRange (e.multiplication.op u (e.meaning y))) ys in
        mapped-all by e.meaning (axis_item a 0 i).cells
        (subst (All by) (sym (row-range a two_a whole_a i first))
        (All-map by (λ j. value_at e a (i ∷ j ∷ [])) (range_with_len 0 n)
        (All-range _ n
        (λ j third.
        let each : e.Carrier → Type 0 = λ v. e.InRange (e.multiplication.op (value_at e a (i ∷ j ∷ [])) v) in
        mapped-all each e.meaning ys
        (subst (All each) (sym (row-range b two_b whole_b k second))
        (All-map each (λ t. value_at e b (k ∷ t ∷ [])) (range_with_len 0 r) (All-range _ r (λ t fourth. products i j k t first third second fourth))))))))))))
