-- Products of whole numbers that are made, as arrays, in the middle of a chain.
use Rattle.std.proofs.Common.{◌≡◌, ◌∙◌, ◌∷◌, [], ◌*◌, ℕ, ℤ, zero, suc, ap, arith, get_or, refl, sym}
use Rattle.std.specs.Prelude.{◌↔◌, ◌≢◌}
use Rattle.std.proofs.Math.Nat.{mul-zero, zero-mul}
use Rattle.ndarray.specs.Chains.{HasColumn, HasMatrix}
use Rattle.ndarray.specs.Grid.{Grid, cell}
use Rattle.ndarray.specs.Index.{size}
use Rattle.ndarray.specs.Matrices.{IsSameMatrix}
use Rattle.ndarray.specs.Products.{HasProductsInRange, HasSumsInRange, column_of, matrix_of, product_of}
use Rattle.ndarray.specs.WholeValues.{HasMagnitudesInRange, HasWholeValues, whole_numbers}
use Rattle.ndarray.specs.declared.elements.Valued.{Ghosts as ValuedGhosts}
use Rattle.ndarray.proofs.callers.SameMatrices.{block-products-same, made-column, made-matrix, magnitudes-same, same-back, same-self, sums-same}
use Rattle.ndarray.proofs.cells.WholeProducts.{entry-whole}

-- an array of the lengths that are multiplied has cells where none of them is 0
pub some-cells : (m p n r : ℕ) → m ≢ 0 → n ≢ 0 → p ≢ 0 → r ≢ 0 → size (m * p ∷ n * r ∷ []) ≢ 0
some-cells zero p n r a b c d = absurd (a refl)
some-cells (suc m) p zero r a b c d = absurd (b refl)
some-cells (suc m) zero (suc n) r a b c d = absurd (c refl)
some-cells (suc m) (suc p) (suc n) zero a b c d = absurd (d refl)
some-cells (suc m) (suc p) (suc n) (suc r) a b c d = λ none. omega (arith, none)

-- and where it has cells, none of them is 0
pub none-zero : (m p n r : ℕ) → size (m * p ∷ n * r ∷ []) ≢ 0 → (m ≢ 0) × (n ≢ 0) × (p ≢ 0) × (r ≢ 0)
none-zero m p n r some = (
  λ e. some (ap (λ k. size (k * p ∷ n * r ∷ [])) e ∙ (ap (λ k. size (k ∷ n * r ∷ [])) (zero-mul p) ∙ zero-mul (size (n * r ∷ [])))),
  λ e. some (ap (λ k. size (m * p ∷ k * r ∷ [])) e ∙ (ap (λ k. size (m * p ∷ k ∷ [])) (zero-mul r) ∙ (ap (λ k. m * p * k) (zero-mul 1) ∙ mul-zero (m * p)))),
  λ e. some (ap (λ k. size (m * k ∷ n * r ∷ [])) e ∙ (ap (λ k. size (k ∷ n * r ∷ [])) (mul-zero m) ∙ zero-mul (size (n * r ∷ [])))),
  λ e. some (ap (λ k. size (m * p ∷ n * k ∷ [])) e ∙ (ap (λ k. size (m * p ∷ k ∷ [])) (mul-zero n) ∙ (ap (λ k. m * p * k) (zero-mul 1) ∙ mul-zero (m * p)))),
)

module _ {A : Type 0} (e : ValuedGhosts A) (number : A → ℤ) (fits : ℤ → Type 0) (w : HasWholeValues e number fits) where
  abbrev v : ValuedGhosts A
  v = whole_numbers number fits

  -- what has the values of a product has the numbers of the product of the numbers
  pub column-numbers : (b x y : Grid A) → HasColumn e (product_of e (matrix_of e b) (column_of e x)) y → HasColumn v (product_of v (matrix_of v b) (column_of v x)) y
  column-numbers b x y made = record {
    lengths = made.lengths;
    whole = made.whole;
    cells = λ is z at. sym (w.element z) ∙ (ap w.whole (made.cells is z at) ∙ entry-whole e number fits w (get_or b.lengths 1 0) (λ k. cell b (get_or is 0 0 ∷ k ∷ [])) (λ k. cell x (k ∷ [])));
  }

  pub matrix-numbers : (a c x : Grid A) → HasMatrix e (product_of e (matrix_of e a) (matrix_of e c)) x → HasMatrix v (product_of v (matrix_of v a) (matrix_of v c)) x
  matrix-numbers a c x made = record {
    lengths = made.lengths;
    whole = made.whole;
    cells = λ is z at. sym (w.element z) ∙ (ap w.whole (made.cells is z at) ∙ entry-whole e number fits w (get_or a.lengths 1 0) (λ k. cell a (get_or is 0 0 ∷ k ∷ [])) (λ k. cell c (k ∷ get_or is 1 0 ∷ [])));
  }

  -- ---- two matrices and a vector, of which Bx is made as y

  module _ (a b x : Grid A) (inner : get_or a.lengths 1 0 ≡ get_or b.lengths 0 0) (y : Grid A) (made : HasColumn e (product_of e (matrix_of e b) (column_of e x)) y) where
    pub chain-magnitudes : HasMagnitudesInRange fits (matrix_of v a) (column_of v y) ↔ HasMagnitudesInRange fits (matrix_of v a) (product_of v (matrix_of v b) (column_of v x))
    chain-magnitudes =
        let m = product_of v (matrix_of v b) (column_of v x) in
        let is : IsSameMatrix (column_of v y) m = made-column v m refl y (column-numbers b x y made) in (
          magnitudes-same fits (matrix_of v a) m (matrix_of v a) (column_of v y) (same-self (matrix_of v a)) (same-back _ _ is) inner,
          magnitudes-same fits (matrix_of v a) (column_of v y) (matrix_of v a) m (same-self (matrix_of v a)) is (inner ∙ sym is.rows),
        )

    pub chain-outer : HasSumsInRange e (matrix_of e a) (column_of e y) → HasSumsInRange e (matrix_of e a) (product_of e (matrix_of e b) (column_of e x))
    chain-outer =
        let m = product_of e (matrix_of e b) (column_of e x) in
        sums-same e (matrix_of e a) m (matrix_of e a) (column_of e y) (same-self (matrix_of e a)) (same-back _ _ (made-column e m refl y made)) inner

  -- ---- four matrices, of which AC and BD are made as x and y

  module _ (a b c d x y : Grid A) (made_x : HasMatrix e (product_of e (matrix_of e a) (matrix_of e c)) x) (made_y : HasMatrix e (product_of e (matrix_of e b) (matrix_of e d)) y) where
    pub mixed-numbers : HasProductsInRange v (matrix_of v x) (matrix_of v y) ↔ HasProductsInRange v (product_of v (matrix_of v a) (matrix_of v c)) (product_of v (matrix_of v b) (matrix_of v d))
    mixed-numbers =
        let m = product_of v (matrix_of v a) (matrix_of v c) in
        let n = product_of v (matrix_of v b) (matrix_of v d) in
        let is_x : IsSameMatrix (matrix_of v x) m = made-matrix v m x (matrix-numbers a c x made_x) in
        let is_y : IsSameMatrix (matrix_of v y) n = made-matrix v n y (matrix-numbers b d y made_y) in (
          block-products-same v m n (matrix_of v x) (matrix_of v y) (same-back _ _ is_x) (same-back _ _ is_y),
          block-products-same v (matrix_of v x) (matrix_of v y) m n is_x is_y,
        )

    pub mixed-values : HasProductsInRange e (matrix_of e x) (matrix_of e y) → HasProductsInRange e (product_of e (matrix_of e a) (matrix_of e c)) (product_of e (matrix_of e b) (matrix_of e d))
    mixed-values =
        let m = product_of e (matrix_of e a) (matrix_of e c) in
        let n = product_of e (matrix_of e b) (matrix_of e d) in
        block-products-same e m n (matrix_of e x) (matrix_of e y) (same-back _ _ (made-matrix e m x made_x)) (same-back _ _ (made-matrix e n y made_y))

-- where one of the two products has no cells, nothing is asked of theirs
module _ {A : Type 0} (e : ValuedGhosts A) (a b c d : Grid A) where
  pub none-mixed : ((get_or a.lengths 0 0 ≢ 0) × (get_or c.lengths 1 0 ≢ 0) → ⊥) → HasProductsInRange e (product_of e (matrix_of e a) (matrix_of e c)) (product_of e (matrix_of e b) (matrix_of e d))
  none-mixed none i j k l row column below across = absurd (none ((λ no. omega (arith, no, row)), (λ no. omega (arith, no, column))))

  pub none-mixed_right : ((get_or b.lengths 0 0 ≢ 0) × (get_or d.lengths 1 0 ≢ 0) → ⊥) → HasProductsInRange e (product_of e (matrix_of e a) (matrix_of e c)) (product_of e (matrix_of e b) (matrix_of e d))
  none-mixed_right none i j k l row column below across = absurd (none ((λ no. omega (arith, no, below)), (λ no. omega (arith, no, across))))
