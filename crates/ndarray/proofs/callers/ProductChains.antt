-- Products of three matrices in either order, and the product of a transpose with its matrix.
use Rattle.std.proofs.Common.{◌≡◌, ◌∙◌, ◌-◌, [], ◌∷◌, Some, ap, arith, get_or, length, refl, reverse, subst, sym}
use Rattle.ndarray.specs.Chains.{HasMatrix}
use Rattle.ndarray.specs.Grid.{Grid, IsGrid, cell}
use Rattle.ndarray.specs.Index.{InBox}
use Rattle.ndarray.specs.Limits.{IsWithinLimit}
use Rattle.ndarray.specs.MatrixLaws.{ProductsAssociate, ProductsTranspose}
use Rattle.ndarray.specs.Matrices.{IsSameMatrix, Matrix, transpose}
use Rattle.ndarray.specs.Products.{HasSumsInRange, ShapesMultiply, matrix_entries, matrix_of, product_lengths, product_of}
use Rattle.ndarray.specs.Views.{transpose_of}
use Rattle.ndarray.specs.declared.elements.Valued.{Ghosts as ValuedGhosts}
use Rattle.ndarray.proofs.boxes.ProductShapes.{inner-matrices, matrix-shapes}
use Rattle.ndarray.proofs.callers.SameMatrices.{lengths-reversed, made-as, made-matrix, made-same, product-same, same-back, same-self, same-then, sums-same, transpose-matrix, two-indices}
use Rattle.ndarray.proofs.cells.Cells.{cell-Some, tabulate-is}
use Rattle.ndarray.proofs.cells.Matrices.{two-lengths}

module _ {A : Type 0} (e : ValuedGhosts A) (a b c : Grid A) (two_a : length a.lengths ≡ 2) (two_b : length b.lengths ≡ 2) (two_c : length c.lengths ≡ 2)
    (left : ShapesMultiply a.lengths b.lengths) (right : ShapesMultiply b.lengths c.lengths) (limit : IsWithinLimit (product_lengths a.lengths c.lengths)) where
  ab_meet : get_or a.lengths 1 0 ≡ get_or b.lengths 0 0
  ab_meet = inner-matrices a.lengths b.lengths two_a two_b left.inner

  bc_meet : get_or b.lengths 1 0 ≡ get_or c.lengths 0 0
  bc_meet = inner-matrices b.lengths c.lengths two_b two_c right.inner

  -- what `dot` of r, which is AB, and C requires
  pub product-on_left : (r : Grid A) → HasMatrix e (product_of e (matrix_of e a) (matrix_of e b)) r → HasSumsInRange e (product_of e (matrix_of e a) (matrix_of e b)) (matrix_of e c)
      → ShapesMultiply r.lengths c.lengths × HasSumsInRange e (matrix_of e r) (matrix_of e c)
  product-on_left r made sums =
      let shapes : ShapesMultiply (get_or a.lengths 0 0 ∷ get_or b.lengths 1 0 ∷ []) c.lengths = matrix-shapes _ c.lengths (omega arith) (omega arith) (omega (arith, two_c)) (omega (arith, two_c)) bc_meet (subst (λ ns. IsWithinLimit (product_lengths ns c.lengths)) (two-lengths a.lengths two_a) limit) in
      let is = made-matrix e (product_of e (matrix_of e a) (matrix_of e b)) r made in (
        subst (λ ns. ShapesMultiply ns c.lengths) (sym made.lengths) shapes,
        sums-same e (matrix_of e r) (matrix_of e c) (product_of e (matrix_of e a) (matrix_of e b)) (matrix_of e c) is (same-self (matrix_of e c)) (is.columns ∙ bc_meet) sums,
      )

  -- what `dot` of A and s, which is BC, requires
  pub product-on_right : (s : Grid A) → HasMatrix e (product_of e (matrix_of e b) (matrix_of e c)) s → HasSumsInRange e (matrix_of e a) (product_of e (matrix_of e b) (matrix_of e c))
      → ShapesMultiply a.lengths s.lengths × HasSumsInRange e (matrix_of e a) (matrix_of e s)
  product-on_right s made sums =
      let shapes : ShapesMultiply a.lengths (get_or b.lengths 0 0 ∷ get_or c.lengths 1 0 ∷ []) = matrix-shapes a.lengths _ (omega (arith, two_a)) (omega (arith, two_a)) (omega arith) (omega arith) (ap (λ n. get_or a.lengths (n - 1) 0) two_a ∙ ab_meet) (subst (λ ns. IsWithinLimit (product_lengths a.lengths ns)) (two-lengths c.lengths two_c) limit) in
      let is = made-matrix e (product_of e (matrix_of e b) (matrix_of e c)) s made in (
        subst (λ ns. ShapesMultiply a.lengths ns) (sym made.lengths) shapes,
        sums-same e (matrix_of e a) (matrix_of e s) (matrix_of e a) (product_of e (matrix_of e b) (matrix_of e c)) (same-self (matrix_of e a)) is (ab_meet ∙ sym is.rows) sums,
      )

  left-same : (r : Grid A) → HasMatrix e (product_of e (matrix_of e a) (matrix_of e b)) r
      → IsSameMatrix (product_of e (matrix_of e r) (matrix_of e c)) (product_of e (product_of e (matrix_of e a) (matrix_of e b)) (matrix_of e c))
  left-same r made =
      let is = made-matrix e (product_of e (matrix_of e a) (matrix_of e b)) r made in
      product-same e (matrix_of e r) (matrix_of e c) (product_of e (matrix_of e a) (matrix_of e b)) (matrix_of e c) is (same-self (matrix_of e c)) (is.columns ∙ bc_meet)

  right-same : (s : Grid A) → HasMatrix e (product_of e (matrix_of e b) (matrix_of e c)) s
      → IsSameMatrix (product_of e (matrix_of e a) (matrix_of e s)) (product_of e (matrix_of e a) (product_of e (matrix_of e b) (matrix_of e c)))
  right-same s made =
      let is = made-matrix e (product_of e (matrix_of e b) (matrix_of e c)) s made in
      product-same e (matrix_of e a) (matrix_of e s) (matrix_of e a) (product_of e (matrix_of e b) (matrix_of e c)) (same-self (matrix_of e a)) is (ab_meet ∙ sym is.rows)

  -- the product of r and C has the values of (AB)C
  pub product-of_left : (r f : Grid A) → HasMatrix e (product_of e (matrix_of e a) (matrix_of e b)) r → HasMatrix e (product_of e (matrix_of e r) (matrix_of e c)) f
      → HasMatrix e (product_of e (product_of e (matrix_of e a) (matrix_of e b)) (matrix_of e c)) f
  product-of_left r f made_r made_f = made-as e (product_of e (matrix_of e r) (matrix_of e c)) (product_of e (product_of e (matrix_of e a) (matrix_of e b)) (matrix_of e c)) (left-same r made_r) f made_f

  -- and is the product of A and s
  pub products-same : ((x y : A) → e.meaning x ≡ e.meaning y → x ≡ y) → ProductsAssociate e.addition e.multiplication → (r f s t : Grid A)
      → HasMatrix e (product_of e (matrix_of e a) (matrix_of e b)) r → HasMatrix e (product_of e (matrix_of e r) (matrix_of e c)) f
      → HasMatrix e (product_of e (matrix_of e b) (matrix_of e c)) s → HasMatrix e (product_of e (matrix_of e a) (matrix_of e s)) t → f ≡ t
  products-same same_meaning law r f s t made_r made_f made_s made_t =
      let middle = law (matrix_of e a) (matrix_of e b) (matrix_of e c) ab_meet bc_meet in
      made-same e same_meaning (product_of e (matrix_of e r) (matrix_of e c)) (product_of e (matrix_of e a) (matrix_of e s))
      (same-then _ _ _ (left-same r made_r) (same-then _ _ _ middle (same-back _ _ (right-same s made_s))))
      f t made_f made_t

-- The transposed view t of a matrix a, and the matrix.
module _ {A : Type 0} (e : ValuedGhosts A) (a t : Grid A) (two : length t.lengths ≡ 2) (is_t : t ≡ transpose_of a) (whole : IsGrid t) where
  is_transpose : IsSameMatrix (matrix_of e t) (transpose (matrix_of e a))
  is_transpose = transpose-matrix a t two is_t e whole

  two_a : length a.lengths ≡ 2
  two_a = lengths-reversed a t two is_t

  abbrev pub gram : Matrix e.Carrier
  gram = product_of e (transpose (matrix_of e a)) (matrix_of e a)

  -- what `dot` of the two requires
  pub transpose-multiplies : IsWithinLimit (product_lengths (reverse a.lengths) a.lengths) → HasSumsInRange e (transpose (matrix_of e a)) (matrix_of e a)
      → ShapesMultiply t.lengths a.lengths × HasSumsInRange e (matrix_of e t) (matrix_of e a)
  transpose-multiplies limit sums =
      let inner : get_or t.lengths 1 0 ≡ get_or a.lengths 0 0 = is_transpose.columns in (
        matrix-shapes t.lengths a.lengths (omega (arith, two)) (omega (arith, two)) (omega (arith, two_a)) (omega (arith, two_a))
            (subst (λ n. get_or t.lengths (n - 1) 0 ≡ get_or a.lengths 0 0) (sym two) inner)
            (subst (λ ns. IsWithinLimit (product_lengths ns a.lengths)) (sym (ap (λ g. g.lengths) is_t)) limit),
        sums-same e (matrix_of e t) (matrix_of e a) (transpose (matrix_of e a)) (matrix_of e a) is_transpose (same-self (matrix_of e a)) inner sums,
      )

  -- their product is that of the transpose with the matrix
  pub transpose-product : IsSameMatrix (product_of e (matrix_of e t) (matrix_of e a)) gram
  transpose-product = product-same e (matrix_of e t) (matrix_of e a) (transpose (matrix_of e a)) (matrix_of e a) is_transpose (same-self (matrix_of e a)) is_transpose.columns

  -- and an array with its values is its own transpose
  pub transpose-symmetric : ((x y : A) → e.meaning x ≡ e.meaning y → x ≡ y) → ProductsTranspose e.addition e.multiplication → (r : Grid A) → HasMatrix e gram r → r ≡ transpose_of r
  transpose-symmetric same_meaning law r made =
      let n = get_or a.lengths 1 0 in
      let law_a = law (transpose (matrix_of e a)) (matrix_of e a) refl in
      tabulate-is r (reverse r.lengths) (λ is. cell r (reverse is)) made.whole (made.lengths ∙ sym (ap reverse made.lengths))
      (λ is b.
      let (i, j, here, l, k) = two-indices n n is (subst (λ ns. InBox ns is) made.lengths b) in
      let back : InBox r.lengths (j ∷ i ∷ []) = subst (λ ns. InBox ns (j ∷ i ∷ [])) (sym made.lengths) (k, (l, tt)) in
      let (x, at) = cell-Some r made.whole is b in
      let (y, there) = cell-Some r made.whole (j ∷ i ∷ []) back in
      let entry : matrix_entries gram is ≡ gram.cell j i = ap (matrix_entries gram) here ∙ sym (law_a.cell i j l k) in
      at ∙ (ap Some (same_meaning x y (made.cells is x at ∙ (entry ∙ sym (made.cells (j ∷ i ∷ []) y there)))) ∙ (sym there ∙ sym (ap (λ js. cell r (reverse js)) here))))
