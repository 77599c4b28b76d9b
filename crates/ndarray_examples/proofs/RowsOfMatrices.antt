-- A row of an array of two axes times another one: what `dot` requires of them, and that it is a row of the product of both arrays.
use Rattle.ndarray.proofs.Common.{◌≡◌, ◌∙◌, ◌-◌, ◌<◌, ◌∷◌, ◌⊎◌, [], ℕ, ap, arith, inl, inr, get_or, length, refl, remove, subst, sym, Grid, IsGrid, cell, InBox, InBox-get, IsSameMatrix, IsWithinLimit, ShapesMultiply, matrix_of, product_of, value_or, cell-inside, inner-matrices, product-same, same-back, same-self, same-then, sums-same, tabulate-cell, two-lengths, vector-shapes}
use Rattle.ndarray.specs.BlockLaws.{RowsOfProducts, one_row}
use Rattle.ndarray.specs.Products.{HasSumsInRange, HasValues, row_entries, row_of}
use Rattle.ndarray.specs.Views.{axis_item}
use Rattle.ndarray.specs.declared.elements.Valued.{Ghosts as ValuedGhosts}

module _ {A : Type 0} (e : ValuedGhosts A) (a b row : Grid A) (i : ℕ) (two : length a.lengths ≡ 2) (both : length b.lengths ≡ 2) (is_row : row ≡ axis_item a 0 i) (whole : IsGrid row) where
  without-rows : remove a.lengths 0 ≡ get_or a.lengths 1 0 ∷ []
  without-rows = ap (λ ns. remove ns 0) (two-lengths a.lengths two)

  row-lengths : row.lengths ≡ get_or a.lengths 1 0 ∷ []
  row-lengths = ap (λ w. w.lengths) is_row ∙ without-rows

  columns : get_or row.lengths 0 0 ≡ get_or a.lengths 1 0
  columns = ap (λ ns. get_or ns 0 0) row-lengths

  row-matrix : IsSameMatrix (row_of e row) (one_row i (matrix_of e a))
  row-matrix = record {
    rows = refl;
    columns = columns;
    cell = λ k j l m.
        let inside : InBox (remove a.lengths 0) (j ∷ []) = subst (λ ns. InBox ns (j ∷ [])) (sym without-rows) (subst (λ n. j < n) columns m, tt) in
        ap (value_or e.meaning e.addition.unit) (ap (λ w. cell w (j ∷ [])) is_row ∙ tabulate-cell (remove a.lengths 0) _ (j ∷ []) (subst IsGrid is_row whole) inside);
  }

  meets : ShapesMultiply row.lengths b.lengths ⊎ ShapesMultiply a.lengths b.lengths → get_or row.lengths 0 0 ≡ get_or b.lengths 0 0
  meets (inr s) = columns ∙ inner-matrices a.lengths b.lengths two both s.inner
  meets (inl s) = sym (ap (λ ns. get_or row.lengths (length ns - 1) 0) row-lengths) ∙ (s.inner ∙ ap (λ n. get_or b.lengths (n - 2) 0) both)

  -- what `dot` of the row requires, where the two arrays multiply
  pub row-multiplies : IsWithinLimit row.lengths → IsWithinLimit b.lengths → ShapesMultiply a.lengths b.lengths → HasSumsInRange e (one_row i (matrix_of e a)) (matrix_of e b)
      → ShapesMultiply row.lengths b.lengths × HasSumsInRange e (row_of e row) (matrix_of e b)
  row-multiplies limit other s sums =
      let inner : get_or row.lengths 0 0 ≡ get_or b.lengths 0 0 = meets (inr s) in
      let one : length row.lengths ≡ 1 = ap length row-lengths in (
        vector-shapes row.lengths b.lengths (omega (arith, one)) (omega (arith, one)) (omega (arith, both)) (omega (arith, both)) (ap (λ n. get_or row.lengths (n - 1) 0) one ∙ inner) limit other (inl one),
        sums-same e (row_of e row) (matrix_of e b) (one_row i (matrix_of e a)) (matrix_of e b) row-matrix (same-self (matrix_of e b)) inner sums,
      )

  -- what `dot` of the row makes
  pub row-made : RowsOfProducts e.addition e.multiplication → ShapesMultiply row.lengths b.lengths ⊎ ShapesMultiply a.lengths b.lengths → (r : Grid A) → HasValues e (get_or b.lengths 1 0 ∷ []) (row_entries (product_of e (row_of e row) (matrix_of e b))) r
      → HasValues e (get_or b.lengths 1 0 ∷ []) (row_entries (one_row i (product_of e (matrix_of e a) (matrix_of e b)))) r
  row-made law s r made =
      let same = same-then _ _ _ (product-same e (row_of e row) (matrix_of e b) (one_row i (matrix_of e a)) (matrix_of e b) row-matrix (same-self (matrix_of e b)) (meets s)) (same-back _ _ (law (matrix_of e a) (matrix_of e b) i)) in
      record {
        lengths = made.lengths;
        whole = made.whole;
        cells = λ is z at. made.cells is z at ∙ same.cell 0 (get_or is 0 0) (omega arith) (InBox-get (get_or b.lengths 1 0 ∷ []) is 0 (subst (λ ns. InBox ns is) made.lengths (cell-inside r is z at)) (omega arith));
      }
