-- Products of three and of four arrays.
use Rattle.std.proofs.Common.{◌≡◌, ◌∙◌, ◌*◌, ◌-◌, ℕ, zero, suc, List, [], ◌∷◌, ap, arith, get_or, inr, length, refl, subst, sym}
use Rattle.ndarray.specs.Chains.{HasColumn, HasMatrix, ShapesChain, ShapesMultiplyInPairs}
use Rattle.ndarray.specs.Grid.{Grid}
use Rattle.ndarray.specs.Index.{size}
use Rattle.ndarray.specs.Limits.{IsWithinLimit}
use Rattle.ndarray.specs.MatrixLaws.{KroneckersMultiply, ProductsAssociate}
use Rattle.ndarray.specs.Matrices.{IsSameMatrix, kronecker_product}
use Rattle.ndarray.specs.Products.{HasProductsInRange, HasSumsInRange, ShapesMultiply, column_of, kronecker_lengths, matrix_of, product_of}
use Rattle.ndarray.specs.declared.elements.Valued.{Ghosts as ValuedGhosts}
use Rattle.ndarray.proofs.boxes.ProductShapes.{inner-matrices, vector-shapes}
use Rattle.ndarray.proofs.boxes.Sizes.{nonzero-one_of}
use Rattle.ndarray.proofs.callers.SameMatrices.{block-products-same, column-as, kronecker-same, made-as, made-column, made-matrix, product-same, same-back, same-self, same-then, sums-same}

-- a matrix and a vector whose inner lengths are equal
pub matrix-by_vector : (ns ms : List ℕ) → length ns ≡ 2 → length ms ≡ 1 → get_or ns 1 0 ≡ get_or ms 0 0 → IsWithinLimit ns → IsWithinLimit ms → ShapesMultiply ns ms
matrix-by_vector ns ms two one inner left right =
    vector-shapes ns ms (omega (arith, two)) (omega (arith, two)) (omega (arith, one)) (omega (arith, one)) (ap (λ n. get_or ns (n - 1) 0) two ∙ inner) left right (inr one)

module _ {A : Type 0} (e : ValuedGhosts A) (a b x : Grid A) (two_a : length a.lengths ≡ 2) (two_b : length b.lengths ≡ 2) (limit_a : IsWithinLimit a.lengths) (limit_b : IsWithinLimit b.lengths)
    (shapes : ShapesChain a.lengths b.lengths x.lengths) (y : Grid A) (made_y : HasColumn e (product_of e (matrix_of e b) (column_of e x)) y) where
  is_y : IsSameMatrix (column_of e y) (product_of e (matrix_of e b) (column_of e x))
  is_y = made-column e (product_of e (matrix_of e b) (column_of e x)) refl y made_y

  -- A may be multiplied by y, which is Bx
  pub chain-shapes : ShapesMultiply a.lengths y.lengths
  chain-shapes =
      let fewer = nonzero-one_of b.lengths 0 (omega (arith, two_b)) in
      let limit_y : IsWithinLimit (get_or b.lengths 0 0 ∷ []) = omega (arith, fewer, limit_b) in
      subst (ShapesMultiply a.lengths) (sym made_y.lengths) (matrix-by_vector a.lengths (get_or b.lengths 0 0 ∷ []) two_a refl shapes.first limit_a limit_y)

  pub chain-sums : HasSumsInRange e (matrix_of e a) (product_of e (matrix_of e b) (column_of e x)) → HasSumsInRange e (matrix_of e a) (column_of e y)
  chain-sums sums = sums-same e (matrix_of e a) (column_of e y) (matrix_of e a) (product_of e (matrix_of e b) (column_of e x)) (same-self (matrix_of e a)) is_y (shapes.first ∙ sym is_y.rows) sums

  -- A times y is (AB)x
  pub chain-made : ProductsAssociate e.addition e.multiplication → (z : Grid A) → HasColumn e (product_of e (matrix_of e a) (column_of e y)) z
      → HasColumn e (product_of e (product_of e (matrix_of e a) (matrix_of e b)) (column_of e x)) z
  chain-made law z made_z =
      let f = matrix_of e a in
      let g = matrix_of e b in
      let h = column_of e x in
      let one = product-same e f (column_of e y) f (product_of e g h) (same-self f) is_y (shapes.first ∙ sym is_y.rows) in
      let other = law f g h shapes.first shapes.second in
      column-as e (product_of e f (column_of e y)) (product_of e (product_of e f g) h) refl (same-then _ _ _ one (same-back _ _ other)) z made_z

module _ {A : Type 0} (e : ValuedGhosts A) (a b c d : Grid A) (two_a : length a.lengths ≡ 2) (two_b : length b.lengths ≡ 2) (two_c : length c.lengths ≡ 2) (two_d : length d.lengths ≡ 2) (shapes : ShapesMultiplyInPairs a.lengths b.lengths c.lengths d.lengths) (x y : Grid A)
    (made_x : HasMatrix e (product_of e (matrix_of e a) (matrix_of e c)) x) (made_y : HasMatrix e (product_of e (matrix_of e b) (matrix_of e d)) y) where
  is_x : IsSameMatrix (matrix_of e x) (product_of e (matrix_of e a) (matrix_of e c))
  is_x = made-matrix e (product_of e (matrix_of e a) (matrix_of e c)) x made_x

  second_is_y : IsSameMatrix (matrix_of e y) (product_of e (matrix_of e b) (matrix_of e d))
  second_is_y = made-matrix e (product_of e (matrix_of e b) (matrix_of e d)) y made_y

  -- the Kronecker product of AC, as x, and BD, as y
  pub mix-limit : IsWithinLimit (kronecker_lengths x.lengths y.lengths)
  mix-limit = subst (λ ns. IsWithinLimit (kronecker_lengths ns y.lengths)) (sym made_x.lengths) (subst (λ ns. IsWithinLimit (kronecker_lengths (get_or a.lengths 0 0 ∷ get_or c.lengths 1 0 ∷ []) ns)) (sym made_y.lengths) shapes.limit)

  pub mix-products : HasProductsInRange e (product_of e (matrix_of e a) (matrix_of e c)) (product_of e (matrix_of e b) (matrix_of e d)) → HasProductsInRange e (matrix_of e x) (matrix_of e y)
  mix-products = block-products-same e (matrix_of e x) (matrix_of e y) (product_of e (matrix_of e a) (matrix_of e c)) (product_of e (matrix_of e b) (matrix_of e d)) is_x second_is_y

  -- it has no cell where AC has none
  pub mix-empty : get_or a.lengths 0 0 * get_or c.lengths 1 0 ≡ 0 → size ((matrix_of e x).rows * (matrix_of e y).rows ∷ (matrix_of e x).columns * (matrix_of e y).columns ∷ []) ≡ 0
  mix-empty none = ap (λ m. size (m * get_or y.lengths 0 0 ∷ get_or x.lengths 1 0 * get_or y.lengths 1 0 ∷ [])) is_x.rows ∙ (ap (λ n. size (get_or a.lengths 0 0 * get_or y.lengths 0 0 ∷ n * get_or y.lengths 1 0 ∷ [])) is_x.columns ∙ no-cells (get_or a.lengths 0 0) (get_or c.lengths 1 0) (get_or y.lengths 0 0) (get_or y.lengths 1 0) none)
    where
      no-cells : (m n p r : ℕ) → m * n ≡ 0 → size (m * p ∷ n * r ∷ []) ≡ 0
      no-cells zero n p r e = omega arith
      no-cells (suc m) zero p r e = omega arith
      no-cells (suc m) (suc n) p r e = absurd (omega (arith, e))

  -- it is (A kron B)(C kron D)
  pub mix-made : KroneckersMultiply e.addition e.multiplication → (z : Grid A) → HasMatrix e (kronecker_product e.multiplication (matrix_of e x) (matrix_of e y)) z
      → HasMatrix e (product_of e (kronecker_product e.multiplication (matrix_of e a) (matrix_of e b)) (kronecker_product e.multiplication (matrix_of e c) (matrix_of e d))) z
  mix-made law z made =
      let f = matrix_of e a in
      let g = matrix_of e b in
      let h = matrix_of e c in
      let k = matrix_of e d in
      let times = e.multiplication in
      let one = kronecker-same e (matrix_of e x) (matrix_of e y) (product_of e f h) (product_of e g k) is_x second_is_y in
      let other = law f g h k (inner-matrices a.lengths c.lengths two_a two_c shapes.left.inner) (inner-matrices b.lengths d.lengths two_b two_d shapes.right.inner) in
      made-as e (kronecker_product times (matrix_of e x) (matrix_of e y)) (product_of e (kronecker_product times f g) (kronecker_product times h k)) (same-then _ _ _ one (same-back _ _ other)) z made
