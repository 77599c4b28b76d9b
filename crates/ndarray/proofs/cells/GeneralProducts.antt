-- Products as general products make them: along the second axis, along the first one, and as a row.
use Rattle.std.proofs.Common.{◌≡◌, ◌∙◌, ◌-◌, ◌<◌, ℕ, List, [], ◌∷◌, ap, arith, get_or, length, refl, subst, sym}
use Rattle.ndarray.specs.Grid.{Grid, IsGrid}
use Rattle.ndarray.specs.Index.{InBox}
use Rattle.ndarray.specs.Matrices.{IsSameMatrix, Matrix, transpose}
use Rattle.ndarray.specs.linalg.ProductTiles.{entries_along, other_index, row_along}
use Rattle.ndarray.specs.Products.{HasSumsInRange, ShapesMultiplyInto, column_entries, column_of, matrix_entries, matrix_of, product_of, row_of}
use Rattle.ndarray.specs.linalg.RowSums.{CanSumRow}
use Rattle.ndarray.specs.Views.{transpose_of}
use Rattle.ndarray.specs.declared.elements.Valued.{Ghosts as ValuedGhosts}
use Rattle.ndarray.proofs.boxes.ProductShapes.{inner-two, lengths-two_one, lengths-two_two}
use Rattle.ndarray.proofs.callers.SameMatrices.{lengths-reversed, same-self, transpose-matrix}
use Rattle.ndarray.proofs.cells.RowProducts.{transposed-product, transposed-sums}

module _ {C : Type 0} where
  entries-rows : (m : Matrix C) (n k : ℕ) (is : List ℕ) → InBox (n ∷ k ∷ []) is → matrix_entries m is ≡ entries_along 1 0 m is
  entries-rows m n k [] b = absurd b
  entries-rows m n k (i ∷ []) b = absurd b.1
  entries-rows m n k (i ∷ j ∷ []) b = ap (m.cell i) (omega arith)
  entries-rows m n k (i ∷ j ∷ l ∷ is) b = absurd b.1.1

  module _ (m t : Matrix C) (same : IsSameMatrix t (transpose m)) where
    turned : (i j l : ℕ) → i < m.rows → j < m.columns → l ≡ i → m.cell i j ≡ t.cell j l
    turned i j l row column place =
        let rows = same.rows in
        let columns = same.columns in
        sym (same.cell j i (omega (arith, rows, column)) (omega (arith, columns, row))) ∙ ap (t.cell j) (sym place)

    entries-columns : (is : List ℕ) → InBox (m.rows ∷ m.columns ∷ []) is → matrix_entries m is ≡ entries_along 0 0 t is
    entries-columns [] b = absurd b
    entries-columns (i ∷ []) b = absurd b.1
    entries-columns (i ∷ j ∷ []) b = turned i j (i - 0) b.0 b.1.0 (omega arith)
    entries-columns (i ∷ j ∷ k ∷ is) b = absurd b.1.1

    entries-row : m.columns ≡ 1 → (is : List ℕ) → InBox (m.rows ∷ []) is → column_entries m is ≡ row_along 0 0 t is
    entries-row one [] b = absurd b
    entries-row one (i ∷ []) b = turned i 0 (i - 0) b.0 (omega (arith, one)) (omega arith)
    entries-row one (i ∷ j ∷ is) b = absurd b.1

module _ {A : Type 0} (e : ValuedGhosts A) where
  -- of matrices a and b into an array c, by rows
  module _ (a b c : Grid A) (two_a : length a.lengths ≡ 2) (two_b : length b.lengths ≡ 2) (shapes : ShapesMultiplyInto a.lengths b.lengths c.lengths) where
    pub lengths-made : c.lengths ≡ get_or a.lengths 0 0 ∷ get_or b.lengths 1 0 ∷ []
    lengths-made = shapes.product ∙ lengths-two_two a.lengths b.lengths two_a two_b

    pub entries-by_rows : (is : List ℕ) → InBox c.lengths is → matrix_entries (product_of e (matrix_of e a) (matrix_of e b)) is ≡ entries_along 1 0 (product_of e (matrix_of e a) (matrix_of e b)) is
    entries-by_rows is inside = entries-rows (product_of e (matrix_of e a) (matrix_of e b)) (get_or a.lengths 0 0) (get_or b.lengths 1 0) is (subst (λ ns. InBox ns is) lengths-made inside)

  -- by columns: at and bt are the transposed matrices
  module _ (a b c at bt : Grid A) (two_at : length at.lengths ≡ 2) (is_at : at ≡ transpose_of a) (whole_at : IsGrid at) (two_bt : length bt.lengths ≡ 2) (is_bt : bt ≡ transpose_of b) (whole_bt : IsGrid bt)
      (shapes : ShapesMultiplyInto a.lengths b.lengths c.lengths) where
    at-matrix : IsSameMatrix (matrix_of e at) (transpose (matrix_of e a))
    at-matrix = transpose-matrix a at two_at is_at e whole_at

    bt-matrix : IsSameMatrix (matrix_of e bt) (transpose (matrix_of e b))
    bt-matrix = transpose-matrix b bt two_bt is_bt e whole_bt

    inner : get_or a.lengths 1 0 ≡ get_or b.lengths 0 0
    inner = inner-two a.lengths b.lengths (lengths-reversed a at two_at is_at) shapes.inner

    lengths : c.lengths ≡ get_or a.lengths 0 0 ∷ get_or b.lengths 1 0 ∷ []
    lengths = lengths-made a b c (lengths-reversed a at two_at is_at) (lengths-reversed b bt two_bt is_bt) shapes

    pub turned-inner : get_or bt.lengths 1 0 ≡ get_or at.lengths 0 0
    turned-inner = bt-matrix.columns ∙ (sym inner ∙ sym at-matrix.rows)

    pub turned-rows : other_index 0 c.lengths ≡ get_or bt.lengths 0 0
    turned-rows = ap (other_index 0) lengths ∙ sym bt-matrix.rows

    pub turned-columns : get_or c.lengths 0 0 ≡ get_or at.lengths 1 0
    turned-columns = ap (λ ns. get_or ns 0 0) lengths ∙ sym at-matrix.columns

    pub turned-sums : HasSumsInRange e (matrix_of e a) (matrix_of e b) → HasSumsInRange e (matrix_of e bt) (matrix_of e at)
    turned-sums sums = transposed-sums e (matrix_of e a) (matrix_of e b) inner (matrix_of e bt) (matrix_of e at) bt-matrix at-matrix sums

    pub entries-by_columns : (is : List ℕ) → InBox c.lengths is → matrix_entries (product_of e (matrix_of e a) (matrix_of e b)) is ≡ entries_along 0 0 (product_of e (matrix_of e bt) (matrix_of e at)) is
    entries-by_columns is inside =
        entries-columns (product_of e (matrix_of e a) (matrix_of e b)) (product_of e (matrix_of e bt) (matrix_of e at))
        (transposed-product e (matrix_of e a) (matrix_of e b) inner (matrix_of e bt) (matrix_of e at) bt-matrix at-matrix) is (subst (λ ns. InBox ns is) lengths inside)

  -- of a matrix a and a vector x into a vector y, as the product of a row: at is the transposed matrix
  module _ (a x y at : Grid A) (two_at : length at.lengths ≡ 2) (is_at : at ≡ transpose_of a) (whole_at : IsGrid at) (one : length x.lengths ≡ 1) (whole : IsGrid x) (shapes : ShapesMultiplyInto a.lengths x.lengths y.lengths) where
    matrix-turned : IsSameMatrix (matrix_of e at) (transpose (matrix_of e a))
    matrix-turned = transpose-matrix a at two_at is_at e whole_at

    two : length a.lengths ≡ 2
    two = lengths-reversed a at two_at is_at

    row-inner : get_or a.lengths 1 0 ≡ get_or x.lengths 0 0
    row-inner = inner-two a.lengths x.lengths two shapes.inner

    column-lengths : y.lengths ≡ get_or a.lengths 0 0 ∷ []
    column-lengths = shapes.product ∙ lengths-two_one a.lengths x.lengths two one

    pub as_row-columns : get_or y.lengths 0 0 ≡ get_or at.lengths 1 0
    as_row-columns = ap (λ ns. get_or ns 0 0) column-lengths ∙ sym matrix-turned.columns

    pub as_row-can_sum : HasSumsInRange e (matrix_of e a) (column_of e x) → CanSumRow e x at
    as_row-can_sum sums = record {
      vector = one;
      whole = whole;
      inner = sym row-inner ∙ sym matrix-turned.rows;
      sums = transposed-sums e (matrix_of e a) (column_of e x) row-inner (row_of e x) (matrix_of e at) (same-self (row_of e x)) matrix-turned sums;
    }

    pub entries-as_row : (is : List ℕ) → InBox y.lengths is → column_entries (product_of e (matrix_of e a) (column_of e x)) is ≡ row_along 0 0 (product_of e (row_of e x) (matrix_of e at)) is
    entries-as_row is inside =
        entries-row (product_of e (matrix_of e a) (column_of e x)) (product_of e (row_of e x) (matrix_of e at))
        (transposed-product e (matrix_of e a) (column_of e x) row-inner (row_of e x) (matrix_of e at) (same-self (row_of e x)) matrix-turned) refl is (subst (λ ns. InBox ns is) column-lengths inside)
