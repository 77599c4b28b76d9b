-- Inner sums of values that are whole numbers.
use Rattle.std.proofs.Common.{◌≡◌, ◌∙◌, ℕ, zero, suc, List, [], ◌∷◌, Option, Some, None, ap, get_or, map, refl, subst, sym, ℤ, pos}
use Rattle.std.specs.Prelude.{◌+ℤ◌, ◌*ℤ◌}
use Rattle.ndarray.specs.Grid.{Grid, cell}
use Rattle.ndarray.specs.Integers.{int_products, int_sums}
use Rattle.ndarray.specs.Matrices.{values_below}
use Rattle.ndarray.specs.Products.{CanAccumulate, CanAddProduct, CanAddScaled, HasProductsInRange, HasSumsInRange, column_entries, column_of, matrix_entries, matrix_of, product_of, row_of, value_or}
use Rattle.ndarray.specs.Sums.{IsSummable, total}
use Rattle.ndarray.specs.WholeValues.{HasWholeValues, whole_numbers}
use Rattle.ndarray.specs.base.WholeValues.{values-summable}
use Rattle.ndarray.specs.declared.elements.Valued.{Ghosts as ValuedGhosts}

module _ {A : Type 0} (e : ValuedGhosts A) (number : A → ℤ) (fits : ℤ → Type 0) (w : HasWholeValues e number fits) where
  value-whole : (o : Option A) → w.whole (value_or e.meaning e.addition.unit o) ≡ value_or number (pos 0) o
  value-whole None = w.zero
  value-whole (Some x) = w.element x

  pub product-whole : (x y : A) → w.whole (e.multiplication.op (e.meaning x) (e.meaning y)) ≡ number x *ℤ number y
  product-whole x y = w.product (e.meaning x) (e.meaning y) ∙ (ap (λ t. t *ℤ w.whole (e.meaning y)) (w.element x) ∙ ap (λ t. number x *ℤ t) (w.element y))

  pub added-whole : (sum x y : A) → w.whole (e.addition.op (e.meaning sum) (e.multiplication.op (e.meaning x) (e.meaning y))) ≡ number sum +ℤ (number x *ℤ number y)
  added-whole sum x y =
      w.sum (e.meaning sum) (e.multiplication.op (e.meaning x) (e.meaning y))
      ∙ (ap (λ t. t +ℤ w.whole (e.multiplication.op (e.meaning x) (e.meaning y))) (w.element sum) ∙ ap (λ t. number sum +ℤ t) (product-whole x y))

  products-whole : (n : ℕ) (f h : ℕ → Option A)
      → map w.whole (values_below n (λ k. e.multiplication.op (value_or e.meaning e.addition.unit (f k)) (value_or e.meaning e.addition.unit (h k))))
      ≡ values_below n (λ k. int_products.op (value_or number (pos 0) (f k)) (value_or number (pos 0) (h k)))
  products-whole zero f h = refl
  products-whole (suc n) f h =
      let first = w.product (value_or e.meaning e.addition.unit (f 0)) (value_or e.meaning e.addition.unit (h 0))
      ∙ (ap (λ t. int_products.op t (w.whole (value_or e.meaning e.addition.unit (h 0)))) (value-whole (f 0)) ∙ ap (int_products.op (value_or number (pos 0) (f 0))) (value-whole (h 0))) in
      ap (λ t. t ∷ map w.whole (values_below n (λ k. e.multiplication.op (value_or e.meaning e.addition.unit (f (suc k))) (value_or e.meaning e.addition.unit (h (suc k)))))) first
      ∙ ap (λ l. int_products.op (value_or number (pos 0) (f 0)) (value_or number (pos 0) (h 0)) ∷ l) (products-whole n (λ k. f (suc k)) (λ k. h (suc k)))

  entry-in_range : (n : ℕ) (f h : ℕ → Option A) → IsSummable int_sums fits (values_below n (λ k. int_products.op (value_or number (pos 0) (f k)) (value_or number (pos 0) (h k))))
      → IsSummable e.addition e.InRange (values_below n (λ k. e.multiplication.op (value_or e.meaning e.addition.unit (f k)) (value_or e.meaning e.addition.unit (h k))))
  entry-in_range n f h sums = values-summable w _ _ (products-whole n f h) sums

  -- what `scaled_add` requires
  pub scaled-in_range : (alpha x y : A) → CanAddProduct (whole_numbers number fits) alpha x y → CanAddProduct e alpha x y
  scaled-in_range alpha x y can = (
    (w.in_range (e.multiplication.op (e.meaning alpha) (e.meaning y))).1 (subst fits (sym (product-whole alpha y)) can.0),
    (w.in_range (e.addition.op (e.meaning x) (e.multiplication.op (e.meaning alpha) (e.meaning y)))).1 (subst fits (sym (added-whole x alpha y)) can.1),
  )

  -- ---- general products

  total-whole : (zs : List e.Carrier) → w.whole (total e.addition zs) ≡ total int_sums (map w.whole zs)
  total-whole [] = w.zero
  total-whole (z ∷ zs) = w.sum z (total e.addition zs) ∙ ap (λ t. w.whole z +ℤ t) (total-whole zs)

  -- the number of an inner sum
  pub entry-whole : (n : ℕ) (f h : ℕ → Option A) → w.whole (total e.addition (values_below n (λ k. e.multiplication.op (value_or e.meaning e.addition.unit (f k)) (value_or e.meaning e.addition.unit (h k)))))
      ≡ total int_sums (values_below n (λ k. int_products.op (value_or number (pos 0) (f k)) (value_or number (pos 0) (h k))))
  entry-whole n f h = total-whole _ ∙ ap (total int_sums) (products-whole n f h)

  -- what is required of a sum of the value s, of whose number it is known
  module _ (is_zero : (x : A) → number x ≡ pos 0 → e.meaning x ≡ e.addition.unit) (alpha beta : A) where
    accumulated-in_range : (old : A) (s : e.Carrier) (t : ℤ) → w.whole s ≡ t → (let v = whole_numbers number fits in CanAddScaled v (number alpha) (number beta) (number old) t) → CanAddScaled e (e.meaning alpha) (e.meaning beta) (e.meaning old) s
    accumulated-in_range old s t is can =
        let scaled : w.whole (e.multiplication.op (e.meaning alpha) s) ≡ number alpha *ℤ t = w.product (e.meaning alpha) s ∙ (ap (λ z. z *ℤ w.whole s) (w.element alpha) ∙ ap (λ z. number alpha *ℤ z) is) in
        let kept = product-whole old beta in
        let added = w.sum (e.multiplication.op (e.meaning old) (e.meaning beta)) (e.multiplication.op (e.meaning alpha) s)
        ∙ (ap (λ z. z +ℤ w.whole (e.multiplication.op (e.meaning alpha) s)) kept ∙ ap (λ z. (number old *ℤ number beta) +ℤ z) scaled) in
        record {
          scaled = (w.in_range (e.multiplication.op (e.meaning alpha) s)).1 (subst fits (sym scaled) can.scaled);
          kept = λ some. (w.in_range (e.multiplication.op (e.meaning old) (e.meaning beta))).1 (subst fits (sym kept) (can.kept (λ none. some (is_zero beta none))));
          added = λ some. (w.in_range (e.addition.op (e.multiplication.op (e.meaning old) (e.meaning beta)) (e.multiplication.op (e.meaning alpha) s))).1 (subst fits (sym added) (can.added (λ none. some (is_zero beta none))));
        }

    -- of two matrices into a third, and of a matrix and a vector into a vector
    module _ (a b c : Grid A) where
      pub matrix-accumulates : (let v = whole_numbers number fits in CanAccumulate v alpha beta (matrix_entries (product_of v (matrix_of v a) (matrix_of v b))) c)
          → CanAccumulate e alpha beta (matrix_entries (product_of e (matrix_of e a) (matrix_of e b))) c
      matrix-accumulates all is x at = accumulated-in_range x _ _ (entry-whole (get_or a.lengths 1 0) (λ k. cell a (get_or is 0 0 ∷ k ∷ [])) (λ k. cell b (k ∷ get_or is 1 0 ∷ []))) (all is x at)

      pub column-accumulates : (let v = whole_numbers number fits in CanAccumulate v alpha beta (column_entries (product_of v (matrix_of v a) (column_of v b))) c)
          → CanAccumulate e alpha beta (column_entries (product_of e (matrix_of e a) (column_of e b))) c
      column-accumulates all is x at = accumulated-in_range x _ _ (entry-whole (get_or a.lengths 1 0) (λ k. cell a (get_or is 0 0 ∷ k ∷ [])) (λ k. cell b (k ∷ []))) (all is x at)

  -- of two matrices, of a vector and a matrix, and of a matrix and a vector
  module _ (a b : Grid A) where
    pub matrices-in_range : (let v = whole_numbers number fits in HasSumsInRange v (matrix_of v a) (matrix_of v b)) → HasSumsInRange e (matrix_of e a) (matrix_of e b)
    matrices-in_range sums i j row column = entry-in_range (get_or a.lengths 1 0) (λ k. cell a (i ∷ k ∷ [])) (λ k. cell b (k ∷ j ∷ [])) (sums i j row column)

    pub row-in_range : (let v = whole_numbers number fits in HasSumsInRange v (row_of v a) (matrix_of v b)) → HasSumsInRange e (row_of e a) (matrix_of e b)
    row-in_range sums i j row column = entry-in_range (get_or a.lengths 0 0) (λ k. cell a (k ∷ [])) (λ k. cell b (k ∷ j ∷ [])) (sums i j row column)

    pub column-in_range : (let v = whole_numbers number fits in HasSumsInRange v (matrix_of v a) (column_of v b)) → HasSumsInRange e (matrix_of e a) (column_of e b)
    column-in_range sums i j row column = entry-in_range (get_or a.lengths 1 0) (λ k. cell a (i ∷ k ∷ [])) (λ k. cell b (k ∷ [])) (sums i j row column)

    -- the products of a Kronecker product
    pub kronecker-in_range : (let v = whole_numbers number fits in HasProductsInRange v (matrix_of v a) (matrix_of v b)) → HasProductsInRange e (matrix_of e a) (matrix_of e b)
    kronecker-in_range all i j k l row column below across =
        let x = value_or e.meaning e.addition.unit (cell a (i ∷ j ∷ [])) in
        let y = value_or e.meaning e.addition.unit (cell b (k ∷ l ∷ [])) in
        let left = value-whole (cell a (i ∷ j ∷ [])) in
        let right = value-whole (cell b (k ∷ l ∷ [])) in
        let is = w.product x y ∙ (ap (λ t. t *ℤ w.whole y) left ∙ ap (λ t. value_or number (pos 0) (cell a (i ∷ j ∷ [])) *ℤ t) right) in
        (w.in_range (e.multiplication.op x y)).1 (subst fits (sym is) (all i j k l row column below across))
