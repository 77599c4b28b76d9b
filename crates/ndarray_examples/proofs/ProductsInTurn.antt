-- Products of arrays that have the values of products.
use Rattle.ndarray.proofs.Common.{◌≡◌, ◌∙◌, ◌↔◌, FitsSigned, ℤ, [], ◌∷◌, ap, get_or, length, subst, sym, w64, Grid, HasMagnitudesInRange, HasMatrix, IsSameMatrix, Matrix, ProductsAssociate, ShapesMultiply, inner-matrices, int_products, int_sums, made-as, made-matrix, magnitudes-same, matrix_of, product-same, product_of, same-back, same-self, two-lengths, i64_values}

-- what `entries_fit` says of them
module _ (fits : ℤ → Type 0) (m n : Matrix ℤ) (left right : Grid ℤ) (made : HasMatrix i64_values m left) (two : length right.lengths ≡ 2) (same_right : IsSameMatrix (matrix_of i64_values right) n) where
  same : IsSameMatrix (matrix_of i64_values left) m
  same = made-matrix i64_values m left made

  inner : ShapesMultiply left.lengths right.lengths → (matrix_of i64_values left).columns ≡ (matrix_of i64_values right).rows
  inner shapes = inner-matrices left.lengths right.lengths (ap length made.lengths) two shapes.inner

  may-multiply : (ShapesMultiply left.lengths right.lengths × HasMagnitudesInRange fits (matrix_of i64_values left) (matrix_of i64_values right)) ↔ (ShapesMultiply (m.rows ∷ m.columns ∷ []) right.lengths × HasMagnitudesInRange fits m n)
  may-multiply = (
    λ p. (
      subst (λ ns. ShapesMultiply ns right.lengths) made.lengths p.0,
      magnitudes-same fits m n (matrix_of i64_values left) (matrix_of i64_values right) (same-back _ _ same) (same-back _ _ same_right) (sym same.columns ∙ (inner p.0 ∙ same_right.rows)) p.1,
    ),
    λ p.
        let shapes : ShapesMultiply left.lengths right.lengths = subst (λ ns. ShapesMultiply ns right.lengths) (sym made.lengths) p.0 in
        (shapes, magnitudes-same fits (matrix_of i64_values left) (matrix_of i64_values right) m n same same_right (inner shapes) p.1),
  )

-- the matrix of an array
abbrev m : Grid ℤ → Matrix ℤ
m g = matrix_of i64_values g

-- two arrays multiply, and the absolute values of the products of each inner sum add up to an i64
abbrev pub Fit : Grid ℤ → Grid ℤ → Type 0
Fit a b = ShapesMultiply a.lengths b.lengths × HasMagnitudesInRange (FitsSigned w64) (m a) (m b)

-- a product of two, and then with a third
module _ (a b d left : Grid ℤ) (two_a : length a.lengths ≡ 2) (two_b : length b.lengths ≡ 2) (two_d : length d.lengths ≡ 2) (fit : Fit a b) (made : HasMatrix i64_values (product_of i64_values (m a) (m b)) left) where
  pub fit-again : Fit left d ↔ (ShapesMultiply (get_or a.lengths 0 0 ∷ get_or b.lengths 1 0 ∷ []) d.lengths × HasMagnitudesInRange (FitsSigned w64) (product_of i64_values (m a) (m b)) (m d))
  fit-again = may-multiply (FitsSigned w64) (product_of i64_values (m a) (m b)) (m d) left d made two_d (same-self (m d))

  meet : Fit left d → get_or left.lengths 1 0 ≡ get_or d.lengths 0 0
  meet next = inner-matrices left.lengths d.lengths (ap length made.lengths) two_d next.0.inner

  pub from-left : Fit left d → (r : Grid ℤ) → HasMatrix i64_values (product_of i64_values (m left) (m d)) r → HasMatrix i64_values (product_of i64_values (product_of i64_values (m a) (m b)) (m d)) r
  from-left next r has =
      let ab = product_of i64_values (m a) (m b) in
      made-as i64_values _ (product_of i64_values ab (m d)) (product-same i64_values (m left) (m d) ab (m d) (made-matrix i64_values ab left made) (same-self (m d)) (meet next)) r has

  pub from-right : ProductsAssociate int_sums int_products → Fit left d → (r : Grid ℤ) → HasMatrix i64_values (product_of i64_values (m left) (m d)) r → HasMatrix i64_values (product_of i64_values (m a) (product_of i64_values (m b) (m d))) r
  from-right associates next r has =
      made-as i64_values _ _
      (associates (m a) (m b) (m d) (inner-matrices a.lengths b.lengths two_a two_b fit.0.inner) (sym (ap (λ ns. get_or ns 1 0) made.lengths) ∙ meet next)) r (from-left next r has)

-- a square, and its square
pub square-fits : (a square : Grid ℤ) → length a.lengths ≡ 2 → ShapesMultiply a.lengths a.lengths → HasMatrix i64_values (product_of i64_values (m a) (m a)) square
    → Fit square square ↔ HasMagnitudesInRange (FitsSigned w64) (product_of i64_values (m a) (m a)) (product_of i64_values (m a) (m a))
square-fits a square two shapes made =
    let s = product_of i64_values (m a) (m a) in
    let again = may-multiply (FitsSigned w64) s s square square made (ap length made.lengths) (made-matrix i64_values s square made) in
    let own = sym (made.lengths ∙ sym (two-lengths a.lengths two)) in
    (λ p. (again.0 p).1, λ q. again.1 (subst (λ ns. ShapesMultiply ns square.lengths) (two-lengths a.lengths two) (subst (ShapesMultiply a.lengths) own shapes), q))
