-- What is in range of a product of matrices is in range of the products of rows and blocks.
use Rattle.std.proofs.Common.{◌≡◌, ◌∙◌, ℕ, zero, suc, ◌+◌, ◌-◌, ◌<◌, List, ◌∷◌, ap, refl, arith, subst}
use Rattle.std.specs.Prelude.{ℤ, pos, nat_lt}
use Rattle.std.proofs.lemmas.Bool.{le-ltb, lt-ltb}
use Rattle.ndarray.specs.Algebra.{CommutativeMonoid}
use Rattle.ndarray.specs.BlockLaws.{one_above, side_by_side}
use Rattle.ndarray.specs.Integers.{int_products}
use Rattle.ndarray.specs.Matrices.{Matrix, inner_products, values_below}
use Rattle.ndarray.specs.Products.{magnitude_sum}
use Rattle.ndarray.specs.RangeLaws.{MagnitudesBySidesStayInRange, MagnitudesOfBlocksStayInRange, MagnitudesOfRowsStayInRange, SumsBySidesStayInRange, SumsOfBlocksStayInRange, SumsOfRowsStayInRange}
use Rattle.ndarray.specs.Sums.{IsSummable}
use Rattle.ndarray.specs.declared.elements.Valued.{Ghosts as ValuedGhosts}
use Rattle.ndarray.proofs.joining.Errors.{if-false, if-true}

module _ {C : Type 0} (times : CommutativeMonoid C) where
  values-same : (n : ℕ) (f h : ℕ → C) → ((i : ℕ) → f i ≡ h i) → values_below n f ≡ values_below n h
  values-same zero f h each = refl
  values-same (suc n) f h each = ap (λ x. x ∷ values_below n (λ i. f (suc i))) (each 0) ∙ ap (λ xs. h 0 ∷ xs) (values-same n (λ i. f (suc i)) (λ i. h (suc i)) (λ i. each (suc i)))

  module _ (a b c : Matrix C) where
    -- the products of a row of A above B are those of a row of A, or of B
    upper-products : (i j : ℕ) → i < a.rows → inner_products times (one_above a b) c i j ≡ inner_products times a c i j
    upper-products i j lt = values-same a.columns _ _ (λ k. ap (λ x. times.op x (c.cell k j)) (if-true (nat_lt i a.rows) (a.cell i k) (b.cell (i - a.rows) k) (lt-ltb i a.rows lt)))

    lower-products : a.columns ≡ b.columns → (i j : ℕ) → inner_products times (one_above a b) c (a.rows + i) j ≡ inner_products times b c i j
    lower-products same i j =
        let back : a.rows + i - a.rows ≡ i = omega arith in
        ap (λ n. values_below n (λ k. times.op ((one_above a b).cell (a.rows + i) k) (c.cell k j))) same
        ∙ values-same b.columns _ _ (λ k. ap (λ x. times.op x (c.cell k j)) (if-false (nat_lt (a.rows + i) a.rows) (a.cell (a.rows + i) k) (b.cell (a.rows + i - a.rows) k) (le-ltb (a.rows + i) a.rows (omega arith)) ∙ ap (λ p. b.cell p k) back))

    -- and those with a column of B and C side by side those with a column of B, or of C
    left-products : (i j : ℕ) → j < b.columns → inner_products times a (side_by_side b c) i j ≡ inner_products times a b i j
    left-products i j lt = values-same a.columns _ _ (λ k. ap (times.op (a.cell i k)) (if-true (nat_lt j b.columns) (b.cell k j) (c.cell k (j - b.columns)) (lt-ltb j b.columns lt)))

    right-products : (i j : ℕ) → inner_products times a (side_by_side b c) i (b.columns + j) ≡ inner_products times a c i j
    right-products i j =
        let back : b.columns + j - b.columns ≡ j = omega arith in
        values-same a.columns _ _ (λ k. ap (times.op (a.cell i k)) (if-false (nat_lt (b.columns + j) b.columns) (b.cell k (b.columns + j)) (c.cell k (b.columns + j - b.columns)) (le-ltb (b.columns + j) b.columns (omega arith)) ∙ ap (c.cell k) back))

module _ {A : Type 0} (e : ValuedGhosts A) where
  pub sums-of_rows : SumsOfRowsStayInRange e
  sums-of_rows a b i lt sums p j below column = sums i j lt column

  pub sums-of_blocks : SumsOfBlocksStayInRange e
  sums-of_blocks a b c same sums = (
    λ i j row column. subst (IsSummable e.addition e.InRange) (upper-products e.multiplication a b c i j row) (sums i j (omega (arith, row)) column),
    λ i j row column. subst (IsSummable e.addition e.InRange) (lower-products e.multiplication a b c same i j) (sums (a.rows + i) j (omega (arith, row)) column),
  )

  pub sums-by_sides : SumsBySidesStayInRange e
  sums-by_sides a b c sums = (
    λ i j row column. subst (IsSummable e.addition e.InRange) (left-products e.multiplication a b c i j column) (sums i j row (omega (arith, column))),
    λ i j row column. subst (IsSummable e.addition e.InRange) (right-products e.multiplication a b c i j) (sums i (b.columns + j) row (omega (arith, column))),
  )

module _ (fits : ℤ → Type 0) where
  -- whether the absolute values of a list add up to a number that fits
  abbrev Fit : List ℤ → Type 0
  Fit zs = fits (pos (magnitude_sum zs))

  pub magnitudes-of_rows : MagnitudesOfRowsStayInRange fits
  magnitudes-of_rows a b i lt all p j below column = all i j lt column

  pub magnitudes-of_blocks : MagnitudesOfBlocksStayInRange fits
  magnitudes-of_blocks a b c same all = (
    λ i j row column. subst Fit (upper-products int_products a b c i j row) (all i j (omega (arith, row)) column),
    λ i j row column. subst Fit (lower-products int_products a b c same i j) (all (a.rows + i) j (omega (arith, row)) column),
  )

  pub magnitudes-by_sides : MagnitudesBySidesStayInRange fits
  magnitudes-by_sides a b c all = (
    λ i j row column. subst Fit (left-products int_products a b c i j column) (all i j row (omega (arith, column))),
    λ i j row column. subst Fit (right-products int_products a b c i j) (all i (b.columns + j) row (omega (arith, column))),
  )
