-- Sums of values, and the laws of products of matrices.
use Rattle.std.proofs.Common.{◌≡◌, ℕ, zero, suc, ◌+◌, ◌*◌, ◌/◌, ◌%◌, ◌<◌, refl, sym, ap, ◌∙◌, arith, zero-add}
use Rattle.std.proofs.Math.Nat.{zero-mul}
use Rattle.std.proofs.lemmas.Nat.{div-mul-add, mod-mul-add}
use Rattle.ndarray.specs.Algebra.{CommutativeMonoid}
use Rattle.ndarray.specs.Matrices.{IsSameMatrix, Matrix, kronecker_product, matrix_product, values_below}
use Rattle.ndarray.specs.Sums.{total}
use Rattle.ndarray.proofs.algebra.Totals.{exchange}
use Rattle.ndarray.specs.MatrixLaws.{KroneckersMultiply, ProductsAssociate, ProductsTranspose}

module _ {C : Type 0} (plus : CommutativeMonoid C) where
  -- the sum of a function over the numbers below n
  abbrev pub sum_below : ℕ → (ℕ → C) → C
  sum_below n f = total plus (values_below n f)

  pub sum_same : (n : ℕ) (f h : ℕ → C) → ((i : ℕ) → i < n → f i ≡ h i) → sum_below n f ≡ sum_below n h
  sum_same zero f h e = refl
  sum_same (suc n) f h e =
      ap (λ t. plus.op t (sum_below n (λ i. f (suc i)))) (e 0 (omega arith))
      ∙ ap (plus.op (h 0)) (sum_same n (λ i. f (suc i)) (λ i. h (suc i)) (λ i l. e (suc i) (omega arith)))

  pub sum_zero : (n : ℕ) → sum_below n (λ _. plus.unit) ≡ plus.unit
  sum_zero zero = refl
  sum_zero (suc n) = plus.unit_op _ ∙ sum_zero n

  pub sum_plus : (n : ℕ) (f h : ℕ → C) → sum_below n (λ i. plus.op (f i) (h i)) ≡ plus.op (sum_below n f) (sum_below n h)
  sum_plus zero f h = sym (plus.unit_op plus.unit)
  sum_plus (suc n) f h =
      ap (plus.op (plus.op (f 0) (h 0))) (sum_plus n (λ i. f (suc i)) (λ i. h (suc i)))
      ∙ exchange plus (f 0) (h 0) (sum_below n (λ i. f (suc i))) (sum_below n (λ i. h (suc i)))

  -- two sums may be exchanged
  pub sum_swap : (m n : ℕ) (f : ℕ → ℕ → C) → sum_below m (λ i. sum_below n (λ j. f i j)) ≡ sum_below n (λ j. sum_below m (λ i. f i j))
  sum_swap zero n f = sym (sum_zero n)
  sum_swap (suc m) n f =
      ap (plus.op (sum_below n (f 0))) (sum_swap m n (λ i. f (suc i)))
      ∙ sym (sum_plus n (f 0) (λ j. sum_below m (λ i. f (suc i) j)))

  -- the first m, and the rest
  pub sum_split : (m n : ℕ) (f : ℕ → C) → sum_below (m + n) f ≡ plus.op (sum_below m f) (sum_below n (λ i. f (m + i)))
  sum_split zero n f =
      let e : (i : ℕ) → f i ≡ f (0 + i) = (λ i. ap f (omega arith)) in
      ap (λ k. sum_below k f) (zero-add n) ∙ sum_same n f (λ i. f (0 + i)) (λ i l. e i) ∙ sym (plus.unit_op _)
  sum_split (suc m) n f =
      let e : suc m + n ≡ suc (m + n) = omega arith in
      ap (λ k. sum_below k f) e
      ∙ ap (plus.op (f 0)) (sum_split m n (λ i. f (suc i)))
      ∙ sym (plus.associates (f 0) _ _)
      ∙ ap (plus.op (sum_below (suc m) f)) (sum_same n (λ i. f (suc (m + i))) (λ i. f (suc m + i)) (λ i l. ap f (omega arith)))

  -- n rows of m
  pub sum_rows : (n m : ℕ) (f : ℕ → C) → sum_below (n * m) f ≡ sum_below n (λ i. sum_below m (λ k. f (i * m + k)))
  sum_rows zero m f = ap (λ k. sum_below k f) (zero-mul m)
  sum_rows (suc n) m f =
      let e : suc n * m ≡ m + n * m = omega arith in
      ap (λ k. sum_below k f) e
      ∙ sum_split m (n * m) f
      ∙ ap (plus.op (sum_below m f)) (sum_rows n m (λ x. f (m + x)))
      ∙ ap (λ t. plus.op t (sum_below n (λ i. sum_below m (λ k. f (m + (i * m + k)))))) (sum_same m f (λ k. f (0 * m + k)) (λ k l. ap f (omega arith)))
      ∙ ap (plus.op (sum_below m (λ k. f (0 * m + k)))) (sum_same n _ _ (λ i l. sum_same m (λ k. f (m + (i * m + k))) (λ k. f (suc i * m + k)) (λ k h. ap f (omega arith))))

  module _ (times : CommutativeMonoid C)
      (distributes : (x y z : C) → times.op x (plus.op y z) ≡ plus.op (times.op x y) (times.op x z))
      (absorbs : (x : C) → times.op plus.unit x ≡ plus.unit) where
    pub sum_times : (n : ℕ) (c : C) (f : ℕ → C) → times.op c (sum_below n f) ≡ sum_below n (λ i. times.op c (f i))
    sum_times zero c f = times.commutes c plus.unit ∙ absorbs c
    sum_times (suc n) c f = distributes c (f 0) (sum_below n (λ i. f (suc i))) ∙ ap (plus.op (times.op c (f 0))) (sum_times n c (λ i. f (suc i)))

    pub times_sum : (n : ℕ) (c : C) (f : ℕ → C) → times.op (sum_below n f) c ≡ sum_below n (λ i. times.op (f i) c)
    times_sum n c f = times.commutes _ c ∙ sum_times n c f ∙ sum_same n _ _ (λ i l. times.commutes c (f i))

    pub products_associate : ProductsAssociate plus times
    products_associate a b c p q = record {
      rows = refl;
      columns = refl;
      cell = λ i j l m.
          sum_same b.columns _ _ (λ y h. times_sum a.columns (c.cell y j) (λ x. times.op (a.cell i x) (b.cell x y)))
          ∙ sum_swap b.columns a.columns (λ y x. times.op (times.op (a.cell i x) (b.cell x y)) (c.cell y j))
          ∙ sum_same a.columns _ _ (λ x h.
          sum_same b.columns _ _ (λ y k. times.associates (a.cell i x) (b.cell x y) (c.cell y j))
          ∙ sym (sum_times b.columns (a.cell i x) (λ y. times.op (b.cell x y) (c.cell y j))));
    }

    pub products_transpose : ProductsTranspose plus times
    products_transpose a b p = record {
      rows = refl;
      columns = refl;
      cell = λ i j l m.
          sum_same a.columns _ _ (λ x h. times.commutes (a.cell j x) (b.cell x i))
          ∙ ap (λ n. sum_below n (λ x. times.op (b.cell x i) (a.cell j x))) p;
    }

    pub sums_multiply : (n m : ℕ) (f h : ℕ → C) → times.op (sum_below n f) (sum_below m h) ≡ sum_below n (λ i. sum_below m (λ k. times.op (f i) (h k)))
    sums_multiply n m f h = times_sum n (sum_below m h) f ∙ sum_same n _ _ (λ i l. sum_times m (f i) h)

    -- the second inner lengths alone have to be equal
    pub mixed-second : (a b c d : Matrix C) → b.columns ≡ d.rows
        → IsSameMatrix (matrix_product plus times (kronecker_product times a b) (kronecker_product times c d)) (kronecker_product times (matrix_product plus times a c) (matrix_product plus times b d))
    mixed-second a b c d q = record {
      rows = refl;
      columns = refl;
      cell = λ i j l m.
          sum_rows a.columns b.columns (λ x. times.op ((kronecker_product times a b).cell i x) ((kronecker_product times c d).cell x j))
          ∙ sum_same a.columns _ _ (λ x h. sum_same b.columns _ _ (λ y k. at_place a b c d i j x y q k))
          ∙ sym (sums_multiply a.columns b.columns _ _);
    }
      where
        at_place : (a b c d : Matrix C) (i j x y : ℕ) → b.columns ≡ d.rows → y < b.columns → times.op ((kronecker_product times a b).cell i (x * b.columns + y)) ((kronecker_product times c d).cell (x * b.columns + y) j)
            ≡ times.op (times.op (a.cell (i / b.rows) x) (c.cell x (j / d.columns))) (times.op (b.cell (i % b.rows) y) (d.cell y (j % d.columns)))
        at_place a b c d i j x y q k =
            rw (← q, div-mul-add x b.columns y k, mod-mul-add x b.columns y k) (exchange times (a.cell (i / b.rows) x) (b.cell (i % b.rows) y) (c.cell x (j / d.columns)) (d.cell y (j % d.columns)))

    pub mixed_products : KroneckersMultiply plus times
    mixed_products a b c d p q = mixed-second a b c d q
