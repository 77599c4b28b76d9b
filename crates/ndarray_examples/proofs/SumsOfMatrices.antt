-- The sum of two arrays, of which the first was copied; and of matrices, a matrix times such a sum.
use Rattle.ndarray.proofs.Common.{◌≡◌, ◌∙◌, ◌+ℤ◌, ◌↔◌, ℤ, ap, get_or, length, subst, sym, int_products, int_sums, matrix_sum, matrix_of, AddsUp, Combines, Grid, HasMagnitudesInRange, HasMatrix, IsGrid, IsSameMatrix, Matrix, ShapesMultiply, inner-matrices, lengths-same, made-as, magnitudes-same, product-same, product_of, same-back, same-self, same-then, sum-matrix, i64_values}
use Rattle.ndarray.specs.MatrixSums.{ProductsOfSums}

pub copy-adds : (b k copy s : Grid ℤ) → copy ≡ b → IsGrid copy → IsGrid k → b.lengths ≡ k.lengths → Combines copy k (λ x y z. z ≡ x +ℤ y) s → AddsUp int_sums (λ x. x) b k s
copy-adds b k copy s same whole other lengths sums = subst (λ w. AddsUp int_sums (λ x. x) w k s) same (record { left = whole; right = other; same = ap (λ w. w.lengths) same ∙ lengths; sums = sums })

module _ (a b k s : Grid ℤ) (two : length a.lengths ≡ 2) (both : length b.lengths ≡ 2) (adds : AddsUp int_sums (λ x. x) b k s) where
  lengths : s.lengths ≡ b.lengths
  lengths = adds.sums.lengths ∙ lengths-same b k adds.left adds.right adds.same

  abbrev pub sum : Matrix ℤ
  sum = matrix_sum int_sums (matrix_of i64_values b) (matrix_of i64_values k)

  same : IsSameMatrix (matrix_of i64_values s) sum
  same = sum-matrix i64_values b k s adds

  inner : ShapesMultiply a.lengths b.lengths → get_or a.lengths 1 0 ≡ get_or b.lengths 0 0
  inner t = inner-matrices a.lengths b.lengths two both t.inner

  -- what `entries_fit` tells of the matrix and the sum
  pub sum-multiplies : (fits : ℤ → Type 0) → (ShapesMultiply a.lengths s.lengths × HasMagnitudesInRange fits (matrix_of i64_values a) (matrix_of i64_values s)) ↔ (ShapesMultiply a.lengths b.lengths × HasMagnitudesInRange fits (matrix_of i64_values a) sum)
  sum-multiplies fits = (
    λ p.
        let t : ShapesMultiply a.lengths b.lengths = subst (ShapesMultiply a.lengths) lengths p.0 in
        (t, magnitudes-same fits (matrix_of i64_values a) sum (matrix_of i64_values a) (matrix_of i64_values s) (same-self (matrix_of i64_values a)) (same-back _ _ same) (inner t) p.1),
    λ p. (subst (ShapesMultiply a.lengths) (sym lengths) p.0, magnitudes-same fits (matrix_of i64_values a) (matrix_of i64_values s) (matrix_of i64_values a) sum (same-self (matrix_of i64_values a)) same (inner p.0 ∙ sym (ap (λ ns. get_or ns 0 0) lengths)) p.1),
  )

  -- what `dot` makes of them
  pub sum-made : ProductsOfSums int_sums int_products → ShapesMultiply a.lengths s.lengths → (r : Grid ℤ) → HasMatrix i64_values (product_of i64_values (matrix_of i64_values a) (matrix_of i64_values s)) r
      → HasMatrix i64_values (matrix_sum int_sums (product_of i64_values (matrix_of i64_values a) (matrix_of i64_values b)) (product_of i64_values (matrix_of i64_values a) (matrix_of i64_values k))) r
  sum-made law t r made =
      let meet = inner-matrices a.lengths s.lengths two (ap length lengths ∙ both) t.inner in
      made-as i64_values _ _ (same-then _ _ _ (product-same i64_values (matrix_of i64_values a) (matrix_of i64_values s) (matrix_of i64_values a) sum (same-self (matrix_of i64_values a)) same meet) (law (matrix_of i64_values a) (matrix_of i64_values b) (matrix_of i64_values k))) r made
