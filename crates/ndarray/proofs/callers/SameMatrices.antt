-- Matrices that have the same values: their products and Kronecker products, and the arrays that have their values.
use Rattle.std.proofs.Common.{◌≡◌, ◌∙◌, ◌<◌, ◌*◌, ◌/◌, ◌%◌, ℕ, ℤ, pos, zero, suc, List, [], ◌∷◌, Some, ap, arith, get_or, length, refl, subst, sym, reverse}
use Rattle.std.proofs.lemmas.List.{length-reverse}
use Rattle.ndarray.specs.Chains.{HasColumn, HasMatrix}
use Rattle.ndarray.specs.Grid.{Grid, IsGrid, array_by, cell}
use Rattle.ndarray.specs.Index.{InBox}
use Rattle.ndarray.specs.Matrices.{IsSameMatrix, Matrix, inner_products, kronecker_product, transpose, values_below}
use Rattle.ndarray.specs.Products.{HasProductsInRange, HasSumsInRange, column_entries, column_of, magnitude_sum, matrix_entries, matrix_of, product_of, value_or}
use Rattle.ndarray.specs.Sums.{IsSummable, total}
use Rattle.ndarray.specs.Views.{transpose_of}
use Rattle.ndarray.specs.WholeValues.{HasMagnitudesInRange, whole_numbers}
use Rattle.ndarray.specs.declared.elements.Valued.{Ghosts as ValuedGhosts}
use Rattle.ndarray.proofs.boxes.ProductShapes.{quotient-below}
use Rattle.ndarray.proofs.cells.Cells.{array_by-cell, array_by-whole, cell-Some, cell-inside, same_grid, tabulate-cell}
use Rattle.ndarray.proofs.cells.Matrices.{below-same, two-lengths}

-- ---- the same matrix

module _ {C : Type 0} where
  pub same-back : (a b : Matrix C) → IsSameMatrix a b → IsSameMatrix b a
  same-back a b s = record {
    rows = sym s.rows;
    columns = sym s.columns;
    cell = λ i j l m. sym (s.cell i j (subst (λ n. i < n) (sym s.rows) l) (subst (λ n. j < n) (sym s.columns) m));
  }

  pub same-then : (a b c : Matrix C) → IsSameMatrix a b → IsSameMatrix b c → IsSameMatrix a c
  same-then a b c s t = record {
    rows = s.rows ∙ t.rows;
    columns = s.columns ∙ t.columns;
    cell = λ i j l m. s.cell i j l m ∙ t.cell i j (subst (λ n. i < n) s.rows l) (subst (λ n. j < n) s.columns m);
  }

  pub same-self : (a : Matrix C) → IsSameMatrix a a
  same-self a = record { rows = refl; columns = refl; cell = λ i j l m. refl }

-- an index list of a box of two lengths
pub two-indices : (n m : ℕ) (is : List ℕ) → InBox (n ∷ m ∷ []) is → (i : ℕ) × (j : ℕ) × (is ≡ i ∷ j ∷ []) × (i < n) × (j < m)
two-indices n m [] b = absurd b
two-indices n m (i ∷ []) b = absurd b.1
two-indices n m (i ∷ j ∷ []) b = (i, j, refl, b.0, b.1.0)
two-indices n m (i ∷ j ∷ k ∷ is) b = absurd b.1.1

-- what holds at each row and column of two by two holds at all
pub below-two : (P : ℕ → ℕ → Type 0) → P 0 0 → P 0 1 → P 1 0 → P 1 1 → (i j : ℕ) → i < 2 → j < 2 → P i j
below-two P a b c d zero zero l m = a
below-two P a b c d zero (suc zero) l m = b
below-two P a b c d (suc zero) zero l m = c
below-two P a b c d (suc zero) (suc zero) l m = d
below-two P a b c d (suc (suc i)) j l m = absurd (omega (arith, l))
below-two P a b c d zero (suc (suc j)) l m = absurd (omega (arith, m))
below-two P a b c d (suc zero) (suc (suc j)) l m = absurd (omega (arith, m))

-- an index list of a box of one length
one-index : (n : ℕ) (is : List ℕ) → InBox (n ∷ []) is → (i : ℕ) × (is ≡ i ∷ []) × (i < n)
one-index n [] b = absurd b
one-index n (i ∷ []) b = (i, refl, b.0)
one-index n (i ∷ j ∷ is) b = absurd b.1

below-one : (j : ℕ) → j < 1 → j ≡ 0
below-one zero lt = refl
below-one (suc j) lt = absurd (omega arith)

module _ {A : Type 0} (e : ValuedGhosts A) where
  -- the products of the same matrices
  module _ (a b c d : Matrix e.Carrier) (left : IsSameMatrix a c) (right : IsSameMatrix b d) (inner : a.columns ≡ b.rows) where
    inner-same : (i j : ℕ) → i < a.rows → j < b.columns → inner_products e.multiplication a b i j ≡ inner_products e.multiplication c d i j
    inner-same i j l m =
        below-same a.columns _ _
        (λ k lt.
        ap (λ t. e.multiplication.op t (b.cell k j)) (left.cell i k l lt)
        ∙ ap (e.multiplication.op (c.cell i k)) (right.cell k j (subst (λ n. k < n) inner lt) m))
        ∙ ap (λ n. values_below n (λ k. e.multiplication.op (c.cell i k) (d.cell k j))) left.columns

    pub product-same : IsSameMatrix (product_of e a b) (product_of e c d)
    product-same = record {
      rows = left.rows;
      columns = right.columns;
      cell = λ i j l m. ap (total e.addition) (inner-same i j l m);
    }

    -- and their sums in range
    pub sums-same : HasSumsInRange e c d → HasSumsInRange e a b
    sums-same sums i j l m =
        subst (IsSummable e.addition e.InRange) (sym (inner-same i j l m)) (sums i j (subst (λ n. i < n) left.rows l) (subst (λ n. j < n) right.columns m))

  -- an array with the values of a matrix is, as a matrix, that one
  pub made-matrix : (m : Matrix e.Carrier) (r : Grid A) → HasMatrix e m r → IsSameMatrix (matrix_of e r) m
  made-matrix m r made =
      let rows : get_or r.lengths 0 0 ≡ m.rows = ap (λ ns. get_or ns 0 0) made.lengths in
      let columns : get_or r.lengths 1 0 ≡ m.columns = ap (λ ns. get_or ns 1 0) made.lengths in
      record {
        rows = rows;
        columns = columns;
        cell = λ i j l k.
            let b : InBox r.lengths (i ∷ j ∷ []) = subst (λ ns. InBox ns (i ∷ j ∷ [])) (sym made.lengths) (subst (λ n. i < n) rows l, (subst (λ n. j < n) columns k, tt)) in
            let (x, at) = cell-Some r made.whole (i ∷ j ∷ []) b in
            ap (value_or e.meaning e.addition.unit) at ∙ made.cells (i ∷ j ∷ []) x at;
      }

  -- an array of two axes has the values of its matrix
  pub own-matrix : (g : Grid A) → IsGrid g → length g.lengths ≡ 2 → HasMatrix e (matrix_of e g) g
  own-matrix g whole two = record {
    lengths = two-lengths g.lengths two;
    whole = whole;
    cells = λ is x at.
        let (i, j, here, l, k) = two-indices (get_or g.lengths 0 0) (get_or g.lengths 1 0) is (subst (λ ns. InBox ns is) (two-lengths g.lengths two) (cell-inside g is x at)) in
        sym (ap (λ js. matrix_entries (matrix_of e g) js) here ∙ ap (value_or e.meaning e.addition.unit) (sym (ap (cell g) here) ∙ at));
  }

  -- an array made by a function of the index list has the values of a matrix where the function gives them
  pub matrix-by : (m : Matrix e.Carrier) (f : List ℕ → A) → ((i j : ℕ) → i < m.rows → j < m.columns → e.meaning (f (i ∷ j ∷ [])) ≡ m.cell i j) → (r : Grid A) → r ≡ array_by (m.rows ∷ m.columns ∷ []) f → HasMatrix e m r
  matrix-by m f each r made =
      let lengths : r.lengths ≡ m.rows ∷ m.columns ∷ [] = ap (λ w. w.lengths) made in
      record {
        lengths = lengths;
        whole = subst IsGrid (sym made) (array_by-whole (m.rows ∷ m.columns ∷ []) f);
        cells = λ is x at.
            let b : InBox (m.rows ∷ m.columns ∷ []) is = subst (λ ns. InBox ns is) lengths (cell-inside r is x at) in
            let (i, j, here, l, k) = two-indices m.rows m.columns is b in
            let there : Some x ≡ Some (f is) = sym at ∙ (ap (λ w. cell w is) made ∙ array_by-cell (m.rows ∷ m.columns ∷ []) f is b) in
            let own : x ≡ f is = cc in
            ap e.meaning own ∙ (ap (λ js. e.meaning (f js)) here ∙ (each i j l k ∙ sym (ap (matrix_entries m) here)));
      }

  -- two arrays with the values of the same matrix are equal
  pub made-same : ((x y : A) → e.meaning x ≡ e.meaning y → x ≡ y) → (m n : Matrix e.Carrier) → IsSameMatrix m n → (r s : Grid A)
      → HasMatrix e m r → HasMatrix e n s → r ≡ s
  made-same same_meaning m n same r s made_r made_s =
      let lengths : r.lengths ≡ s.lengths = made_r.lengths ∙ (ap (λ k. k ∷ m.columns ∷ []) same.rows ∙ (ap (λ k. n.rows ∷ k ∷ []) same.columns ∙ sym made_s.lengths)) in
      same_grid r s made_r.whole made_s.whole lengths
      (λ is b.
      let (x, at_r) = cell-Some r made_r.whole is b in
      let (y, at_s) = cell-Some s made_s.whole is (subst (λ ns. InBox ns is) lengths b) in
      let (i, j, here, l, k) = two-indices m.rows m.columns is (subst (λ ns. InBox ns is) made_r.lengths b) in
      let entry : matrix_entries m is ≡ matrix_entries n is = ap (matrix_entries m) here ∙ (same.cell i j l k ∙ sym (ap (matrix_entries n) here)) in
      at_r ∙ (ap Some (same_meaning x y (made_r.cells is x at_r ∙ (entry ∙ sym (made_s.cells is y at_s)))) ∙ sym at_s))

  -- an array with the values of a matrix has those of the same matrix
  pub made-as : (m n : Matrix e.Carrier) → IsSameMatrix m n → (r : Grid A) → HasMatrix e m r → HasMatrix e n r
  made-as m n same r made = record {
    lengths = made.lengths ∙ (ap (λ k. k ∷ m.columns ∷ []) same.rows ∙ ap (λ k. n.rows ∷ k ∷ []) same.columns);
    whole = made.whole;
    cells = λ is x at.
        let (i, j, here, l, k) = two-indices m.rows m.columns is (subst (λ ns. InBox ns is) made.lengths (cell-inside r is x at)) in
        made.cells is x at ∙ (ap (matrix_entries m) here ∙ (same.cell i j l k ∙ sym (ap (matrix_entries n) here)));
  }

  -- the same of a matrix of one column, and a vector
  pub made-column : (m : Matrix e.Carrier) → m.columns ≡ 1 → (r : Grid A) → HasColumn e m r → IsSameMatrix (column_of e r) m
  made-column m one r made =
      let rows : get_or r.lengths 0 0 ≡ m.rows = ap (λ ns. get_or ns 0 0) made.lengths in
      record {
        rows = rows;
        columns = sym one;
        cell = λ i j l k.
            let b : InBox r.lengths (i ∷ []) = subst (λ ns. InBox ns (i ∷ [])) (sym made.lengths) (subst (λ n. i < n) rows l, tt) in
            let (x, at) = cell-Some r made.whole (i ∷ []) b in
            ap (value_or e.meaning e.addition.unit) at ∙ (made.cells (i ∷ []) x at ∙ ap (m.cell i) (sym (below-one j k)));
      }

  pub column-as : (m n : Matrix e.Carrier) → m.columns ≡ 1 → IsSameMatrix m n → (r : Grid A) → HasColumn e m r → HasColumn e n r
  column-as m n one same r made = record {
    lengths = made.lengths ∙ ap (λ k. k ∷ []) same.rows;
    whole = made.whole;
    cells = λ is x at.
        let (i, here, l) = one-index m.rows is (subst (λ ns. InBox ns is) made.lengths (cell-inside r is x at)) in
        made.cells is x at ∙ (ap (column_entries m) here ∙ (same.cell i 0 l (subst (λ k. 0 < k) (sym one) (omega arith)) ∙ sym (ap (column_entries n) here)));
  }

  -- the Kronecker product of the same matrices
  module _ (a b c d : Matrix e.Carrier) (left : IsSameMatrix a c) (right : IsSameMatrix b d) where
    pub kronecker-same : IsSameMatrix (kronecker_product e.multiplication a b) (kronecker_product e.multiplication c d)
    kronecker-same = record {
      rows = ap (λ n. n * b.rows) left.rows ∙ ap (λ n. c.rows * n) right.rows;
      columns = ap (λ n. n * b.columns) left.columns ∙ ap (λ n. c.columns * n) right.columns;
      cell = λ p q l m.
          let (some_rows, i, k) = quotient-below p a.rows b.rows l in
          let (some_columns, j, h) = quotient-below q a.columns b.columns m in
          ap (λ t. e.multiplication.op t (b.cell (p % b.rows) (q % b.columns))) (left.cell (p / b.rows) (q / b.columns) i j)
          ∙ (ap (e.multiplication.op (c.cell (p / b.rows) (q / b.columns))) (right.cell (p % b.rows) (q % b.columns) k h)
          ∙ (ap (λ n. e.multiplication.op (c.cell (p / n) (q / b.columns)) (d.cell (p % n) (q % b.columns))) right.rows
          ∙ ap (λ n. e.multiplication.op (c.cell (p / d.rows) (q / n)) (d.cell (p % d.rows) (q % n))) right.columns));
    }

    pub block-products-same : HasProductsInRange e c d → HasProductsInRange e a b
    block-products-same products i j k h l m n o =
        subst e.InRange
        (sym
        (ap (λ t. e.multiplication.op t (b.cell k h)) (left.cell i j l m)
        ∙ ap (e.multiplication.op (c.cell i j)) (right.cell k h n o)))
        (products i j k h (subst (λ t. i < t) left.rows l) (subst (λ t. j < t) left.columns m) (subst (λ t. k < t) right.rows n) (subst (λ t. h < t) right.columns o))

-- the absolute values of the products of the same matrices of whole numbers are in range
pub magnitudes-same : (fits : ℤ → Type 0) (a b c d : Matrix ℤ) → IsSameMatrix a c → IsSameMatrix b d → a.columns ≡ b.rows → HasMagnitudesInRange fits c d → HasMagnitudesInRange fits a b
magnitudes-same fits a b c d left right inner h i j l m =
    subst (λ ps. fits (pos (magnitude_sum ps))) (sym (inner-same (whole_numbers (λ (x : ℤ). x) fits) a b c d left right inner i j l m))
    (h i j (subst (λ n. i < n) left.rows l) (subst (λ n. j < n) right.columns m))

-- the transposed view of an array of two axes is, as a matrix, the transpose
module _ {A : Type 0} (a t : Grid A) (two : length t.lengths ≡ 2) (is_t : t ≡ transpose_of a) where
  lengths_t : t.lengths ≡ reverse a.lengths
  lengths_t = ap (λ g. g.lengths) is_t

  pub lengths-reversed : length a.lengths ≡ 2
  lengths-reversed = sym (length-reverse a.lengths) ∙ (sym (ap length lengths_t) ∙ two)

  turned : reverse a.lengths ≡ get_or a.lengths 1 0 ∷ get_or a.lengths 0 0 ∷ []
  turned = ap reverse (two-lengths a.lengths lengths-reversed)

  pub transpose-matrix : (e : ValuedGhosts A) → IsGrid t → IsSameMatrix (matrix_of e t) (transpose (matrix_of e a))
  transpose-matrix e whole =
      let lengths = lengths_t ∙ turned in
      record {
        rows = ap (λ ns. get_or ns 0 0) lengths;
        columns = ap (λ ns. get_or ns 1 0) lengths;
        cell = λ i j l m.
            let b : InBox (get_or t.lengths 0 0 ∷ get_or t.lengths 1 0 ∷ []) (i ∷ j ∷ []) = (l, (m, tt)) in
            let box : InBox (reverse a.lengths) (i ∷ j ∷ []) = subst (λ ns. InBox ns (i ∷ j ∷ [])) (sym (two-lengths t.lengths two) ∙ lengths_t) b in
            ap (value_or e.meaning e.addition.unit) (ap (λ g. cell g (i ∷ j ∷ [])) is_t ∙ tabulate-cell (reverse a.lengths) (λ is. cell a (reverse is)) (i ∷ j ∷ []) (subst IsGrid is_t whole) box);
      }
