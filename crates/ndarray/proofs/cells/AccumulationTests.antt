-- General products of whole numbers, whose entries are tested one after another.
use Rattle.std.proofs.Common.{◌≡◌, ◌∙◌, ℕ, ◌<◌, List, [], ◌∷◌, Some, get_or, insert, length, lit<, remove, sym, ap, subst, arith, ℤ, pos}
use Rattle.ndarray.specs.Grid.{Grid, IsGrid, cell}
use Rattle.ndarray.specs.Index.{InBox, size}
use Rattle.ndarray.specs.Integers.{int_products, int_sums}
use Rattle.ndarray.specs.Matrices.{Matrix, inner_products}
use Rattle.ndarray.specs.Products.{CanAccumulate, CanAddScaled, HasSumsInRange, column_entries, column_of, magnitude_sum, matrix_entries, matrix_of, product_of, value_or}
use Rattle.ndarray.specs.Sums.{total}
use Rattle.ndarray.specs.Views.{axis_item}
use Rattle.ndarray.specs.WholeValues.{HasMagnitudesInRange, whole_numbers}
use Rattle.ndarray.specs.declared.elements.Valued.{Ghosts as ValuedGhosts}
use Rattle.ndarray.proofs.boxes.Boxes.{InBox-length, InBox-some}
use Rattle.ndarray.proofs.cells.Cells.{cell-inside, tabulate-cell}
use Rattle.ndarray.proofs.cells.EntryTests.{ProductsFit}
use Rattle.ndarray.proofs.cells.Matrices.{below-same, one-length, two-lengths}

-- column j of a matrix, seen as y, is a matrix of one column
module _ {A : Type 0} (e : ValuedGhosts A) (h y : Grid A) (two : length h.lengths ≡ 2) (j : ℕ) (is : y ≡ axis_item h 1 j) (whole : IsGrid y) where
  pub column-cell : (k : ℕ) → k < get_or h.lengths 0 0 → cell y (k ∷ []) ≡ cell h (k ∷ j ∷ [])
  column-cell k lt =
      ap (λ w. cell w (k ∷ [])) is
      ∙ tabulate-cell (remove h.lengths 1) (λ js. cell h (insert js 1 j)) (k ∷ []) (subst IsGrid is whole) (subst (λ l. InBox l (k ∷ [])) (sym (ap (λ l. remove l 1) (two-lengths h.lengths two))) (lt, tt))

  pub column-of_matrix : (a : Matrix e.Carrier) → a.columns ≡ get_or h.lengths 0 0 → (i : ℕ) → inner_products e.multiplication a (column_of e y) i 0 ≡ inner_products e.multiplication a (matrix_of e h) i j
  column-of_matrix a inner i =
      below-same a.columns _ _ (λ k lt. ap (λ o. e.multiplication.op (a.cell i k) (value_or e.meaning e.addition.unit o)) (column-cell k (subst (λ n. k < n) inner lt)))

module _ {A : Type 0} (number : A → ℤ) (fits : ℤ → Type 0) (alpha beta : A) where
  abbrev v : ValuedGhosts A
  v = whole_numbers number fits

  -- what a general product requires of the products of one row and column, which are these, and of the cell at the index list
  abbrev pub Accumulable : List ℤ → Grid A → List ℕ → Type 0
  Accumulable products old is = ProductsFit fits products × ((x : A) → cell old is ≡ Some x → CanAddScaled v (number alpha) (number beta) (number x) (total int_sums products))

  -- ---- a matrix and a vector into a vector

  abbrev row_products : Grid A → Grid A → ℕ → List ℤ
  row_products a x i = inner_products int_products (matrix_of v a) (column_of v x) i 0

  -- what is tested of each row
  abbrev pub RowAccumulates : Grid A → Grid A → Grid A → ℕ → Type 0
  RowAccumulates a x y i = Accumulable (row_products a x i) y (i ∷ [])

  module _ (a x y : Grid A) (lengths : y.lengths ≡ get_or a.lengths 0 0 ∷ []) where
    pub rows-sums : ((i : ℕ) → i < get_or a.lengths 0 0 → RowAccumulates a x y i) → HasSumsInRange v (matrix_of v a) (column_of v x)
    rows-sums each i j row column = (each i row).0.1

    pub rows-enough : ((i : ℕ) → i < get_or a.lengths 0 0 → RowAccumulates a x y i)
        → HasMagnitudesInRange fits (matrix_of v a) (column_of v x) × CanAccumulate v alpha beta (column_entries (product_of v (matrix_of v a) (column_of v x))) y
    rows-enough each = (
      λ i j row column. (each i row).0.0,
      λ is u at.
          let inside = cell-inside y is u at in
          let long : is ≡ get_or is 0 0 ∷ [] = one-length is (InBox-length y.lengths is inside ∙ ap length lengths) in
          let row : InBox (get_or a.lengths 0 0 ∷ []) (get_or is 0 0 ∷ []) = subst (λ ns. InBox ns (get_or is 0 0 ∷ [])) lengths (subst (InBox y.lengths) long inside) in
          (each (get_or is 0 0) row.0).1 u (ap (cell y) (sym long) ∙ at),
    )

    -- row i asks for the magnitude of its sum and for its cell
    pub row-needed : HasMagnitudesInRange fits (matrix_of v a) (column_of v x) × CanAccumulate v alpha beta (column_entries (product_of v (matrix_of v a) (column_of v x))) y
        → (i : ℕ) → i < get_or a.lengths 0 0 → (u : A) → cell y (i ∷ []) ≡ Some u
        → fits (pos (magnitude_sum (row_products a x i))) × CanAddScaled v (number alpha) (number beta) (number u) (total int_sums (row_products a x i))
    row-needed all i row u at = (all.0 i 0 row (lit< tt), all.1 (i ∷ []) u at)

  -- ---- two matrices into a third, by columns

  -- what is tested of each row and column
  abbrev pub ColumnAccumulates : Grid A → Grid A → Grid A → ℕ → Type 0
  ColumnAccumulates a b c j = (i : ℕ) → i < get_or a.lengths 0 0 → Accumulable (inner_products int_products (matrix_of v a) (matrix_of v b) i j) c (i ∷ j ∷ [])

  module _ (a b c : Grid A) (two_b : length b.lengths ≡ 2) (two_c : length c.lengths ≡ 2) (inner : get_or a.lengths 1 0 ≡ get_or b.lengths 0 0) (lengths : c.lengths ≡ get_or a.lengths 0 0 ∷ get_or b.lengths 1 0 ∷ []) where
    pub columns-sums : ((j : ℕ) → j < get_or b.lengths 1 0 → ColumnAccumulates a b c j) → HasSumsInRange v (matrix_of v a) (matrix_of v b)
    columns-sums each i j row column = (each j column i row).0.1

    pub columns-enough : ((j : ℕ) → j < get_or b.lengths 1 0 → ColumnAccumulates a b c j)
        → HasMagnitudesInRange fits (matrix_of v a) (matrix_of v b) × CanAccumulate v alpha beta (matrix_entries (product_of v (matrix_of v a) (matrix_of v b))) c
    columns-enough each = (
      λ i j row column. (each j column i row).0.0,
      λ is u at.
          let inside = cell-inside c is u at in
          let long : is ≡ get_or is 0 0 ∷ get_or is 1 0 ∷ [] = two-lengths is (InBox-length c.lengths is inside ∙ two_c) in
          let there : InBox (get_or a.lengths 0 0 ∷ get_or b.lengths 1 0 ∷ []) (get_or is 0 0 ∷ get_or is 1 0 ∷ []) = subst (λ ns. InBox ns (get_or is 0 0 ∷ get_or is 1 0 ∷ [])) lengths (subst (InBox c.lengths) long inside) in
          (each (get_or is 1 0) there.1.0 (get_or is 0 0) there.0).1 u (ap (cell c) (sym long) ∙ at),
    )

    -- where there are no cells, nothing is asked
    pub no-entries : size c.lengths ≡ 0 → HasMagnitudesInRange fits (matrix_of v a) (matrix_of v b) × CanAccumulate v alpha beta (matrix_entries (product_of v (matrix_of v a) (matrix_of v b))) c
    no-entries none = (
      λ i j row column. (let some = InBox-some c.lengths (i ∷ j ∷ []) (subst (λ ns. InBox ns (i ∷ j ∷ [])) (sym lengths) (row, (column, tt))) in absurd (omega (arith, some, none))),
      λ is u at. (let some = InBox-some c.lengths is (cell-inside c is u at) in absurd (omega (arith, some, none))),
    )

    -- column j of b and of c, seen as x and y
    module _ (x y : Grid A) (j : ℕ) (column : j < get_or b.lengths 1 0) (is_x : x ≡ axis_item b 1 j) (whole_x : IsGrid x) (is_y : y ≡ axis_item c 1 j) (whole_y : IsGrid y) where
      same-products : (i : ℕ) → inner_products int_products (matrix_of v a) (column_of v x) i 0 ≡ inner_products int_products (matrix_of v a) (matrix_of v b) i j
      same-products i = column-of_matrix v b x two_b j is_x whole_x (matrix_of v a) inner i

      same-cell : (i : ℕ) → i < get_or a.lengths 0 0 → cell y (i ∷ []) ≡ cell c (i ∷ j ∷ [])
      same-cell i row = column-cell v c y two_c j is_y whole_y i (subst (λ ns. i < get_or ns 0 0) (sym lengths) row)

      pub column-lengths : y.lengths ≡ get_or a.lengths 0 0 ∷ []
      column-lengths = ap (λ w. w.lengths) is_y ∙ ap (λ l. remove l 1) lengths

      -- what the test of the column says
      pub column-enough : HasMagnitudesInRange fits (matrix_of v a) (column_of v x) × CanAccumulate v alpha beta (column_entries (product_of v (matrix_of v a) (column_of v x))) y
          → HasSumsInRange v (matrix_of v a) (column_of v x) → ColumnAccumulates a b c j
      column-enough all sums i row = (
        subst (ProductsFit fits) (same-products i) (all.0 i 0 row (lit< tt), sums i 0 row (lit< tt)),
        λ u at. subst (λ zs. CanAddScaled v (number alpha) (number beta) (number u) (total int_sums zs)) (same-products i) (all.1 (i ∷ []) u (same-cell i row ∙ at)),
      )

      pub column-needed : HasMagnitudesInRange fits (matrix_of v a) (matrix_of v b) × CanAccumulate v alpha beta (matrix_entries (product_of v (matrix_of v a) (matrix_of v b))) c
          → HasMagnitudesInRange fits (matrix_of v a) (column_of v x) × CanAccumulate v alpha beta (column_entries (product_of v (matrix_of v a) (column_of v x))) y
      column-needed all = (
        λ i k row _. subst (λ zs. fits (pos (magnitude_sum zs))) (sym (same-products i)) (all.0 i j row column),
        λ is u at.
            let inside = cell-inside y is u at in
            let long : is ≡ get_or is 0 0 ∷ [] = one-length is (InBox-length y.lengths is inside ∙ ap length column-lengths) in
            let there : InBox (get_or a.lengths 0 0 ∷ []) (get_or is 0 0 ∷ []) = subst (λ ns. InBox ns (get_or is 0 0 ∷ [])) column-lengths (subst (InBox y.lengths) long inside) in
            let here : cell c (get_or is 0 0 ∷ j ∷ []) ≡ Some u = sym (same-cell (get_or is 0 0) there.0) ∙ (ap (cell y) (sym long) ∙ at) in
            subst (λ zs. CanAddScaled v (number alpha) (number beta) (number u) (total int_sums zs)) (sym (same-products (get_or is 0 0))) (all.1 (get_or is 0 0 ∷ j ∷ []) u here),
      )
