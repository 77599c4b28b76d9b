-- Products that are made row by row, or as the transpose of the product of the transposed matrices.
use Rattle.std.proofs.Common.{◌≡◌, ◌∙◌, ◌+◌, ◌-◌, ◌*◌, ◌<◌, ◌≤◌, ℕ, suc, List, [], ◌∷◌, ◌++◌, Some, add-one, ap, arith, drop, get_or, insert, length, map, refl, remove, reverse, subst, sym}
use Rattle.std.specs.Prelude.{Result, flat_map}
use Rattle.std.specs.List.{range_with_len}
use Rattle.std.proofs.Math.Nat.{mul-le-mul_left}
use Rattle.std.proofs.lemmas.Grind.{flat_map-append}
use Rattle.std.proofs.lemmas.List.{append-nil, length-drop, length-map, map-append, map-id}
use Rattle.std.proofs.lemmas.List.FromFn.{map-range_with_len_more}
use Rattle.std.proofs.lemmas.Simd.{map-map}
use Rattle.ndarray.specs.Chains.{HasColumn, HasMatrix}
use Rattle.ndarray.specs.Grid.{Grid, IsGrid, cell}
use Rattle.ndarray.specs.Index.{InBox, row_order, size}
use Rattle.ndarray.specs.Matrices.{IsSameMatrix, Matrix, inner_products, transpose, values_below}
use Rattle.ndarray.specs.Products.{HasSumsInRange, HasValues, MakesColumn, MakesRow, ShapesMultiply, column_entries, column_of, matrix_entries, matrix_of, product_of, products_of, row_entries, row_of, value_at, value_or}
use Rattle.ndarray.specs.linalg.RowSums.{AddsRows, CanAddRows, CanSumRow, row_sums, row_sums_to}
use Rattle.ndarray.specs.Sums.{IsSummable, total}
use Rattle.ndarray.specs.Views.{axis_item, transpose_of}
use Rattle.ndarray.specs.declared.elements.Valued.{Ghosts as ValuedGhosts}
use Rattle.ndarray.proofs.boxes.Orders.{length-row_order, row_order-one}
use Rattle.ndarray.proofs.boxes.ProductShapes.{inner-two}
use Rattle.ndarray.proofs.callers.Collecting.{if_ok-both}
use Rattle.ndarray.proofs.callers.SameMatrices.{lengths-reversed, product-same, same-self, same-then, sums-same, transpose-matrix, two-indices}
use Rattle.ndarray.proofs.cells.Cells.{cell-inside, tabulate-cell}
use Rattle.ndarray.proofs.cells.Matrices.{below-same, column-values, row-values, two-lengths, vector-values}
use Rattle.ndarray.proofs.sums.InnerSums.{lists-meet}
use Rattle.ndarray.proofs.sums.RowSums.{first-left, map-range-below, value-at, values-length}
use Rattle.ndarray.proofs.sums.SeveralRows.{AreRows, IsRow, rows-added, rows-can_add}

-- ---- the values of a box of two axes, row by row

-- of one axis
pub values-one : {C : Type 0} (value : List ℕ → C) (n : ℕ) → map value (row_order (n ∷ [])) ≡ values_below n (λ j. value (j ∷ []))
values-one value n = ap (map value) (row_order-one n) ∙ (map-map value (λ k. k ∷ []) (range_with_len 0 n) ∙ map-range-below (λ j. value (j ∷ [])) n)

abbrev row : (n i : ℕ) → List (List ℕ)
row n i = map (λ is. i ∷ is) (row_order (n ∷ []))

rows-more : (n i : ℕ) → row_order (suc i ∷ n ∷ []) ≡ row_order (i ∷ n ∷ []) ++ row n i
unfolding row_order
rows-more n i =
    let more : range_with_len 0 (i + 1) ≡ range_with_len 0 i ++ i ∷ [] =
    sym (map-id (range_with_len 0 (i + 1))) ∙ (map-range_with_len_more (λ k. k) 0 i i (omega arith) ∙ ap (λ l. l ++ i ∷ []) (map-id (range_with_len 0 i))) in
    ap (flat_map (λ k. map (λ is. k ∷ is) (row_order (n ∷ [])))) (rw add-one at more)
    ∙ (flat_map-append (λ k. map (λ is. k ∷ is) (row_order (n ∷ []))) (range_with_len 0 i) (i ∷ [])
    ∙ ap (λ l. row_order (i ∷ n ∷ []) ++ l) (append-nil (row n i)))

pub no-rows : {C : Type 0} (value : List ℕ → C) (n : ℕ) → map value (row_order (0 ∷ n ∷ [])) ≡ []
unfolding row_order
no-rows value n = refl

-- one row more
pub values-row : {C : Type 0} (m : Matrix C) (n i : ℕ) → map (matrix_entries m) (row_order ((i + 1) ∷ n ∷ [])) ≡ map (matrix_entries m) (row_order (i ∷ n ∷ [])) ++ values_below n (m.cell i)
values-row m n i =
    ap (map (matrix_entries m)) (rw add-one (rows-more n i))
    ∙ (map-append (matrix_entries m) (row_order (i ∷ n ∷ [])) (row n i)
    ∙ ap (λ l. map (matrix_entries m) (row_order (i ∷ n ∷ [])) ++ l)
    (map-map (matrix_entries m) (λ is. i ∷ is) (row_order (n ∷ [])) ∙ values-one (λ is. matrix_entries m (i ∷ is)) n))

length-rows : (n i : ℕ) → length (row_order (i ∷ n ∷ [])) ≡ i * n
length-rows n i = let one : n * 1 ≡ n = omega arith in length-row_order (i ∷ n ∷ []) ∙ ap (λ k. i * k) one

-- elements with the values of the first rows, and room for the next
pub rows-room : {A C : Type 0} (v : A → C) (value : List ℕ → C) (xs : List A) (n i m : ℕ) → map v xs ≡ map value (row_order (i ∷ n ∷ [])) → i < m → length xs + n ≤ m * n
rows-room v value xs n i m values lt =
    let all = sym (length-map xs v) ∙ (ap length values ∙ (length-map (row_order (i ∷ n ∷ [])) value ∙ length-rows n i)) in
    let le : i + 1 ≤ m = omega arith in
    let next : n * (i + 1) ≤ n * m = mul-le-mul_left n le in
    omega (arith, all, next)

module _ {A : Type 0} (e : ValuedGhosts A) where
  -- ---- the sums of a row

  -- x is a vector and b a matrix
  module _ (x b : Grid A) (two : length b.lengths ≡ 2) (can : CanSumRow e x b) where
    numbers : map e.meaning x.cells ≡ values_below (get_or x.lengths 0 0) (λ k. value_at e x (k ∷ []))
    numbers = vector-values e.meaning e.addition.unit x can.whole can.vector

    as_many : length x.cells ≡ get_or b.lengths 0 0
    as_many = values-length e.meaning x.cells _ _ numbers ∙ can.inner

    -- there are numbers for the rows from i on
    pub as_many-left : (i : ℕ) (from : List A) → from ≡ drop i x.cells → length from ≡ get_or b.lengths 0 0 - i
    as_many-left i from is = ap length is ∙ (length-drop i x.cells ∙ ap (λ n. n - i) as_many)

    abbrev product_at : ℕ → ℕ → e.Carrier
    product_at j k = e.multiplication.op (value_at e x (k ∷ [])) (value_at e b (k ∷ j ∷ []))

    -- y is the number at i
    module _ (i : ℕ) (y : A) (rest : List A) (left : drop i x.cells ≡ y ∷ rest) where
      below : i < get_or x.lengths 0 0
      below = let lt = (first-left x.cells i y rest left).0 in let long = values-length e.meaning x.cells _ _ numbers in omega (arith, lt, long)

      products : (j : ℕ) → j < get_or b.lengths 1 0 → e.multiplication.op (e.meaning y) (value_at e b (i ∷ j ∷ [])) ≡ e.multiplication.op (value_at e x (i ∷ [])) (value_at e b (i ∷ j ∷ []))
      products j lt =
          ap (λ t. e.multiplication.op t (value_at e b (i ∷ j ∷ [])))
          (ap e.meaning (sym (first-left x.cells i y rest left).1) ∙ value-at e.meaning x.cells (get_or x.lengths 0 0) (λ k. value_at e x (k ∷ [])) i y numbers below)

      pub row-at : (ys : List A) → ys ≡ (axis_item b 0 i).cells → IsGrid (axis_item b 0 i) → IsRow e (get_or b.lengths 1 0) (get_or x.lengths 0 0) product_at i y ys
      row-at ys is whole =
          let meant : map e.meaning ys ≡ values_below (get_or b.lengths 1 0) (λ j. value_at e b (i ∷ j ∷ [])) =
          ap (map e.meaning) is ∙ row-values e.meaning e.addition.unit b (axis_item b 0 i) two whole i refl in
          record {
            within = below;
            many = values-length e.meaning ys _ _ meant;
            products = λ j d lt. ap (e.multiplication.op (e.meaning y)) (value-at e.meaning ys _ _ j d meant lt) ∙ products j lt;
          }

    -- the rows from i on, with the numbers from some on: those behind them are left
    abbrev pub NextRows : ℕ → List (A × List A) → List A → List A → Type 0
    NextRows i [] from left = left ≡ from
    NextRows i ((y, ys) ∷ rows) from left = (m : ℕ) × (rest : List A) × (m ≡ i) × (from ≡ y ∷ rest) × (ys ≡ (axis_item b 0 m).cells) × IsGrid (axis_item b 0 m) × NextRows (i + 1) rows rest left

    pub rows-next : (i : ℕ) (rows : List (A × List A)) (from left : List A) → from ≡ drop i x.cells → NextRows i rows from left
        → AreRows e (get_or b.lengths 1 0) (get_or x.lengths 0 0) product_at i rows × (left ≡ drop (i + length rows) x.cells)
    rows-next i [] from left is h = (tt, h ∙ (is ∙ ap (λ k. drop k x.cells) (omega arith)))
    rows-next i ((y, ys) ∷ rows) from left is (m, rest, here, first, cells, whole, more) =
        let start = sym is ∙ first in
        let (are, behind) = rows-next (i + 1) rows rest left (sym (first-left x.cells i y rest start).2) more in (
          (row-at i y rest start ys (cells ∙ ap (λ k. (axis_item b 0 k).cells) here) (subst (λ k. IsGrid (axis_item b 0 k)) here whole), are),
          behind ∙ ap (λ k. drop k x.cells) (omega arith),
        )

    module _ (i : ℕ) (rows : List (A × List A)) (from left : List A) (is : from ≡ drop i x.cells) (next : NextRows i rows from left)
        (sums : List A) (so_far : map e.meaning sums ≡ row_sums_to e i x b) where
      pub sums-can_add : CanAddRows e rows sums
      sums-can_add = rows-can_add e _ _ product_at i rows (rows-next i rows from left is next).0 sums so_far (λ j lt. can.sums 0 j (omega arith) lt)

      pub sums-added : (new : List A) → AddsRows e rows sums new → map e.meaning new ≡ row_sums_to e (i + length rows) x b
      sums-added = rows-added e _ _ product_at i rows (rows-next i rows from left is next).0 sums so_far

    -- the numbers of x, and column j of b
    pub column-meets : (xs ys : List A) → xs ≡ x.cells → (j : ℕ) (r : Grid A) → IsGrid r → r ≡ axis_item b 1 j → ys ≡ r.cells
        → (products_of e.multiplication e.meaning xs ys ≡ inner_products e.multiplication (row_of e x) (matrix_of e b) 0 j) × (length xs ≡ length ys)
    column-meets xs ys all j r whole_r is_item column =
        lists-meet e.multiplication e.meaning xs ys _ _ _ _ (ap (map e.meaning) all ∙ numbers) (ap (map e.meaning) column ∙ column-values e.meaning e.addition.unit b r two whole_r j is_item) can.inner

  -- ---- a row of the left side

  abbrev row_matrix : Matrix e.Carrier → ℕ → Matrix e.Carrier
  row_matrix a i = record { rows = 1; columns = a.columns; cell = λ _ k. a.cell i k }

  module _ (a r b : Grid A) (two : length a.lengths ≡ 2) (whole : IsGrid r) (i : ℕ) (is_item : r ≡ axis_item a 0 i) (inner : get_or a.lengths 1 0 ≡ get_or b.lengths 0 0) where
    lengths-item : r.lengths ≡ get_or a.lengths 1 0 ∷ []
    lengths-item = ap (λ w. w.lengths) is_item ∙ ap (λ l. remove l 0) (two-lengths a.lengths two)

    row-same : IsSameMatrix (row_of e r) (row_matrix (matrix_of e a) i)
    row-same = record {
      rows = refl;
      columns = ap (λ ns. get_or ns 0 0) lengths-item;
      cell = λ p k l m.
          let below : k < get_or a.lengths 1 0 = subst (λ ns. k < get_or ns 0 0) lengths-item m in
          let box : InBox (remove a.lengths 0) (k ∷ []) = subst (λ ns. InBox ns (k ∷ [])) (sym (ap (λ ns. remove ns 0) (two-lengths a.lengths two))) (below, tt) in
          ap (value_or e.meaning e.addition.unit) (ap (λ w. cell w (k ∷ [])) is_item ∙ tabulate-cell (remove a.lengths 0) (λ is. cell a (insert is 0 i)) (k ∷ []) (subst IsGrid is_item whole) box);
    }

    meet : get_or r.lengths 0 0 ≡ get_or b.lengths 0 0
    meet = ap (λ ns. get_or ns 0 0) lengths-item ∙ inner

    pub row-can_sum : i < get_or a.lengths 0 0 → HasSumsInRange e (matrix_of e a) (matrix_of e b) → CanSumRow e r b
    row-can_sum lt sums = record {
      vector = ap length lengths-item;
      whole = whole;
      inner = meet;
      sums = sums-same e (row_of e r) (matrix_of e b) (row_matrix (matrix_of e a) i) (matrix_of e b) row-same (same-self (matrix_of e b)) meet (λ p j l m. sums i j lt m);
    }

    pub row-is : row_sums e r b ≡ values_below (get_or b.lengths 1 0) ((product_of e (matrix_of e a) (matrix_of e b)).cell i)
    row-is =
        below-same (get_or b.lengths 1 0) _ _
        (λ j lt. (product-same e (row_of e r) (matrix_of e b) (row_matrix (matrix_of e a) i) (matrix_of e b) row-same (same-self (matrix_of e b)) meet).cell 0 j (omega arith) lt)

  -- ---- transposed matrices

  module _ (a b : Matrix e.Carrier) (inner : a.columns ≡ b.rows) where
    turned : (i j : ℕ) → inner_products e.multiplication (transpose b) (transpose a) i j ≡ inner_products e.multiplication a b j i
    turned i j =
        below-same b.rows _ _ (λ k lt. e.multiplication.commutes (b.cell k i) (a.cell j k))
        ∙ ap (λ n. values_below n (λ k. e.multiplication.op (a.cell j k) (b.cell k i))) (sym inner)

    turned-sums : HasSumsInRange e a b → HasSumsInRange e (transpose b) (transpose a)
    turned-sums sums i j l m = subst (IsSummable e.addition e.InRange) (sym (turned i j)) (sums j i m l)

    turned-product : IsSameMatrix (product_of e (transpose b) (transpose a)) (transpose (product_of e a b))
    turned-product = record { rows = refl; columns = refl; cell = λ i j l m. ap (total e.addition) (turned i j) }

    -- the same of two matrices that are the transposed ones
    module _ (c d : Matrix e.Carrier) (left : IsSameMatrix c (transpose b)) (right : IsSameMatrix d (transpose a)) where
      meets : c.columns ≡ d.rows
      meets = left.columns ∙ (sym inner ∙ sym right.rows)

      pub transposed-sums : HasSumsInRange e a b → HasSumsInRange e c d
      transposed-sums sums = sums-same e c d (transpose b) (transpose a) left right meets (turned-sums sums)

      pub transposed-product : IsSameMatrix (product_of e c d) (transpose (product_of e a b))
      transposed-product = same-then (product_of e c d) (product_of e (transpose b) (transpose a)) (transpose (product_of e a b)) (product-same e c d (transpose b) (transpose a) left right meets) turned-product

  -- an array with its axes exchanged has the values of the transposed matrix
  pub made-transposed : (m : Matrix e.Carrier) (r t : Grid A) → HasMatrix e m r → t ≡ transpose_of r → IsGrid t → HasMatrix e (transpose m) t
  made-transposed m r t made is_t whole =
      let lengths : t.lengths ≡ m.columns ∷ m.rows ∷ [] = ap (λ w. w.lengths) is_t ∙ ap reverse made.lengths in
      record {
        lengths = lengths;
        whole = whole;
        cells = λ is z at.
            let inside : InBox t.lengths is = cell-inside t is z at in
            let (i, j, here, l, k) = two-indices m.columns m.rows is (subst (λ ns. InBox ns is) lengths inside) in
            let there : cell r (reverse is) ≡ Some z = sym (ap (λ w. cell w is) is_t ∙ tabulate-cell (reverse r.lengths) (λ js. cell r (reverse js)) is (subst IsGrid is_t whole) (subst (λ ns. InBox ns is) (ap (λ w. w.lengths) is_t) inside)) ∙ at in
            made.cells (reverse is) z there ∙ (ap (λ js. matrix_entries m (reverse js)) here ∙ sym (ap (matrix_entries (transpose m)) here));
      }

  -- an array with the values of one row has those of the column that is its transpose
  pub row-as_column : (m n : Matrix e.Carrier) → n.columns ≡ 1 → IsSameMatrix m (transpose n) → (r : Grid A) → HasValues e (m.columns ∷ []) (row_entries m) r → HasColumn e n r
  row-as_column m n one same r made = record {
    lengths = made.lengths ∙ ap (λ k. k ∷ []) same.columns;
    whole = made.whole;
    cells = λ is z at.
        let b : InBox (m.columns ∷ []) is = subst (λ ns. InBox ns is) made.lengths (cell-inside r is z at) in
        made.cells is z at ∙ first is b;
  }
    where
      first : (is : List ℕ) → InBox (m.columns ∷ []) is → row_entries m is ≡ column_entries n is
      first [] b = absurd b
      first (i ∷ is) b = same.cell 0 i (subst (λ k. 0 < k) (sym (same.rows ∙ one)) (omega arith)) b.0

  -- ---- a matrix and a vector, by the vector and the transposed matrix

  module _ (a x at v : Grid A) (two : length at.lengths ≡ 2) (is_at : at ≡ transpose_of a) (whole_at : IsGrid at) (one : length x.lengths ≡ 1) (is_v : v ≡ x) (whole_v : IsGrid v) (shapes : ShapesMultiply a.lengths x.lengths) where
    column-meet : get_or a.lengths 1 0 ≡ get_or x.lengths 0 0
    column-meet = inner-two a.lengths x.lengths (lengths-reversed a at two is_at) (shapes.inner ∙ ap (λ n. get_or x.lengths (n - 2) 0) one)

    row-turned : IsSameMatrix (row_of e v) (transpose (column_of e x))
    row-turned = subst (λ w. IsSameMatrix (row_of e w) (row_of e x)) (sym is_v) (same-self (row_of e x))

    matrix-turned : IsSameMatrix (matrix_of e at) (transpose (matrix_of e a))
    matrix-turned = transpose-matrix a at two is_at e whole_at

    pub column-can_sum : HasSumsInRange e (matrix_of e a) (column_of e x) → CanSumRow e v at
    column-can_sum sums = record {
      vector = ap (λ w. length w.lengths) is_v ∙ one;
      whole = whole_v;
      inner = ap (λ w. get_or w.lengths 0 0) is_v ∙ (sym column-meet ∙ sym matrix-turned.rows);
      sums = transposed-sums (matrix_of e a) (column_of e x) column-meet (row_of e v) (matrix_of e at) row-turned matrix-turned sums;
    }

    pub column-made : {E : Type 0} (r : Result (Grid A) E) → MakesRow e (product_of e (row_of e v) (matrix_of e at)) r → MakesColumn e (product_of e (matrix_of e a) (column_of e x)) r
    column-made r made = record {
      made = if_ok-both r _ _ _
          (λ w h k. row-as_column (product_of e (row_of e v) (matrix_of e at)) (product_of e (matrix_of e a) (column_of e x)) refl
          (transposed-product (matrix_of e a) (column_of e x) column-meet (row_of e v) (matrix_of e at) row-turned matrix-turned) w h)
          made.made made.made;
      empty = λ none. made.empty (ap (λ n. size (n ∷ [])) matrix-turned.columns ∙ none);
    }
