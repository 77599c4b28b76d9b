-- Valid convolutions of lists: a part of the full one, and two of them one after another.
use Rattle.std.proofs.Common.{◌≡◌, ℕ, zero, suc, ◌+◌, ◌-◌, ◌<◌, ◌≤◌, List, [], ◌∷◌, ◌++◌, length, replicate, reverse, take, drop, refl, sym, ap, ◌∙◌, arith, subst, zero-add, inl, inr}
use Rattle.std.proofs.lemmas.Bool.{cases_lt}
use Rattle.ndarray.specs.Matrices.{values_below}
use Rattle.std.specs.Prelude.{slice_get}
use Rattle.std.proofs.lemmas.List.{length-drop, length-replicate, drop_at, append-nil}
use Rattle.ndarray.specs.Algebra.{CommutativeMonoid}
use Rattle.ndarray.specs.Convolution.{convolution_products, filter_products, full_length, valid_length, full_convolution, filtered}
use Rattle.ndarray.specs.ConvolutionLaws.{FiltersCompose, ValidIsPartOfFull}
use Rattle.ndarray.specs.Products.{products_of}
use Rattle.ndarray.specs.Sums.{total}
use Rattle.ndarray.proofs.convolution.Cauchy.{cauchy, cauchy-same, cauchy-associates}
use Rattle.ndarray.proofs.convolution.Full.{full_length-some, length-full_convolution, at-full_convolution, at-below}
use Rattle.ndarray.proofs.convolution.NeutralValues.{WithNeutral, WithNeutral-total}
use Rattle.ndarray.proofs.convolution.ProductLists.{value_or_zero, value_at, value_at-past, total-convolution_products}
use Rattle.ndarray.proofs.convolution.ValueSums.{below-same, length-below, part-below}
use Rattle.ndarray.proofs.convolution.Windows.{window_to, window_to-is, window_to-products}

-- a window that lies within the list
window_to-within : {A : Type 0} (z : A) (xs : List A) (k : ℕ) → k < length xs → window_to z xs (suc k) k ≡ take (suc k) xs
window_to-within z xs k h =
    sym (window_to-is z xs 0 k k (omega arith))
    ∙ ap (take (suc k)) (drop_at (replicate k z) (xs ++ []) k (length-replicate k z) ∙ append-nil xs)

module _ {A : Type 0} where
  pub slice_get-later : (xs : List A) (p i : ℕ) → slice_get (drop p xs) i ≡ slice_get xs (p + i)
  slice_get-later xs zero i = ap (slice_get xs) (sym (zero-add i))
  slice_get-later [] (suc p) i = refl
  slice_get-later (x ∷ xs) (suc p) i = slice_get-later xs p i ∙ ap (slice_get (x ∷ xs)) (let e : suc (p + i) ≡ suc p + i = omega arith in e)

module _ {C : Type 0} (plus times : CommutativeMonoid C)
    (absorbs : (x : C) → times.op plus.unit x ≡ plus.unit) where
  -- where the second function is zero from k + 1 on, the products before the last k + 1 are
  cauchy-late : (f h : ℕ → C) (p k : ℕ) → ((j : ℕ) → k < j → h j ≡ plus.unit) → cauchy plus times f h (p + k) ≡ cauchy plus times (λ i. f (p + i)) h k
  cauchy-late f h zero k e =
      ap (cauchy plus times f h) (zero-add k) ∙ cauchy-same plus times f (λ i. f (0 + i)) h h k (λ i l. ap f (sym (zero-add i))) (λ i l. refl)
  cauchy-late f h (suc p) k e =
      let s : suc p + k ≡ suc (p + k) = omega arith in
      ap (cauchy plus times f h) s
      ∙ (ap (λ t. plus.op t (cauchy plus times (λ i. f (suc i)) h (p + k))) (ap (times.op (f 0)) (e (suc (p + k)) (omega arith)) ∙ (times.commutes (f 0) plus.unit ∙ absorbs (f 0)))
      ∙ (plus.unit_op (cauchy plus times (λ i. f (suc i)) h (p + k))
      ∙ (cauchy-late (λ i. f (suc i)) h p k e
      ∙ cauchy-same plus times (λ i. f (suc (p + i))) (λ i. f (suc p + i)) h h k (λ i l. ap f (omega arith)) (λ i l. refl))))

  module _ {A : Type 0} (value : A → C) (z : A) (is_zero : value z ≡ plus.unit) where
    -- the products of a window are some that the full convolution adds up, with zeros put in
    pub filter-products : (xs ys : List A) (p : ℕ) → 1 ≤ length ys → p + length ys ≤ length xs → WithNeutral plus (filter_products times value xs ys p) (convolution_products times value (drop p xs) ys (length ys - 1))
    filter-products xs [] p one h = absurd (omega arith)
    filter-products xs (y ∷ ys) p one h =
        let k : ℕ = length ys in
        let d = length-drop p xs in
        let one_fewer : suc k - 1 ≡ k = omega arith in
        subst (λ j. WithNeutral plus (filter_products times value xs (y ∷ ys) p) (convolution_products times value (drop p xs) (y ∷ ys) j)) (sym one_fewer)
        (subst (λ l. WithNeutral plus (products_of times value l (reverse (y ∷ ys))) (convolution_products times value (drop p xs) (y ∷ ys) k)) (window_to-within z (drop p xs) k (omega arith))
        (window_to-products plus times value absorbs z is_zero (drop p xs) (y ∷ ys) k))

    -- the sum of a window's products is the value of the full convolution that many places further
    pub filter-total : (xs ys : List A) (p : ℕ) → 1 ≤ length ys → p + length ys ≤ length xs → total plus (filter_products times value xs ys p) ≡ cauchy plus times (value_at plus times value xs) (value_at plus times value ys) (p + (length ys - 1))
    filter-total xs ys p one h =
        let k : ℕ = length ys - 1 in
        let at = λ (ws : List A). value_at plus times value ws in
        WithNeutral-total plus _ _ (filter-products xs ys p one h)
        ∙ (total-convolution_products plus times value absorbs (drop p xs) ys k
        ∙ (cauchy-same plus times (at (drop p xs)) (λ i. at xs (p + i)) (at ys) (at ys) k (λ i l. ap (λ o. value_or_zero plus times value o) (slice_get-later xs p i)) (λ i l. refl)
        ∙ sym (cauchy-late (at xs) (at ys) p k (λ j l. value_at-past plus times value ys j (omega arith)))))

  module _ (distributes : (x y z : C) → times.op x (plus.op y z) ≡ plus.op (times.op x y) (times.op x z)) where
    at : List C → ℕ → C
    at ws = value_at plus times (λ x. x) ws

    length-filtered : (xs ys : List C) → length (filtered plus times xs ys) ≡ valid_length (length xs) (length ys)
    length-filtered xs ys = length-below (valid_length (length xs) (length ys)) (λ p. total plus (filter_products times (λ x. x) xs ys p))

    sum-at : (xs ys : List C) (p : ℕ) → 1 ≤ length ys → p + length ys ≤ length xs → total plus (filter_products times (λ x. x) xs ys p) ≡ cauchy plus times (at xs) (at ys) (p + (length ys - 1))
    unfolding at
    sum-at xs ys p one h = filter-total (λ x. x) plus.unit refl xs ys p one h

    at-filtered : (xs ys : List C) (p : ℕ) → 1 ≤ length ys → p + length ys ≤ length xs → at (filtered plus times xs ys) p ≡ cauchy plus times (at xs) (at ys) (p + (length ys - 1))
    unfolding at
    at-filtered xs ys p one h =
        at-below plus times distributes absorbs (valid_length (length xs) (length ys)) (λ q. total plus (filter_products times (λ x. x) xs ys q)) p (omega arith)
        ∙ sum-at xs ys p one h

    at-past : (ws : List C) (j : ℕ) → length ws ≤ j → at ws j ≡ plus.unit
    unfolding at
    at-past ws j h = value_at-past plus times (λ x. x) ws j h

    at-full : (ys zs : List C) (s : ℕ) → at (full_convolution plus times ys zs) s ≡ cauchy plus times (at ys) (at zs) s
    unfolding at
    at-full ys zs s = at-full_convolution plus times distributes absorbs (λ x. x) ys zs s

    pub filters_compose : FiltersCompose plus times
    filters_compose xs ys zs one_y one_z =
        let w : List C = filtered plus times xs ys in
        let k : List C = full_convolution plus times ys zs in
        let m : ℕ = length ys - 1 in
        let q : ℕ = length zs - 1 in
        let lw = length-filtered xs ys in
        let lk : length k ≡ length ys + length zs - 1 = length-full_convolution plus times distributes absorbs (λ x. x) ys zs ∙ full_length-some (length ys) (length zs) one_y one_z in
        let whole = λ (i : ℕ). cauchy plus times (at xs) (at ys) i in
        below-same (valid_length (length w) (length zs)) (valid_length (length xs) (length k)) _ _ (omega arith)
        (λ p l.
        let end : p + m + q ≡ p + (length k - 1) = omega arith in
        sum-at w zs p one_z (omega arith)
        ∙ (cauchy-late (at w) (at zs) p q (λ j h. at-past zs j (omega arith))
        ∙ (cauchy-same plus times (λ i. at w (p + i)) (λ i. whole (p + m + i)) (at zs) (at zs) q
        (λ i h. let there : p + i + m ≡ p + m + i = omega arith in at-filtered xs ys (p + i) one_y (omega arith) ∙ ap whole there) (λ i h. refl)
        ∙ (sym (cauchy-late whole (at zs) (p + m) q (λ j h. at-past zs j (omega arith)))
        ∙ (cauchy-associates plus times distributes (at xs) (at ys) (at zs) (p + m + q)
        ∙ (cauchy-same plus times (at xs) (at xs) (cauchy plus times (at ys) (at zs)) (at k) (p + m + q) (λ i h. refl) (λ i h. sym (at-full ys zs i))
        ∙ (ap (cauchy plus times (at xs) (at k)) end
        ∙ sym (sum-at xs k p (omega arith) (omega arith)))))))))

    pub valid_is_part : ValidIsPartOfFull plus times
    unfolding at
    valid_is_part xs ys one =
        let n : ℕ = valid_length (length xs) (length ys) in
        let d : ℕ = length ys - 1 in
        let sum = λ (s : ℕ). total plus (convolution_products times (λ x. x) xs ys s) in
        elim (cases_lt (length xs) (length ys)) [
          | inl short ↦ (
              let none : n ≡ 0 = omega arith in
              ap (λ k. values_below k (λ p. total plus (filter_products times (λ x. x) xs ys p))) none
              ∙ ap (λ k. take k (drop d (full_convolution plus times xs ys))) (sym none))
          | inr le ↦ (
              let f = full_length-some (length xs) (length ys) (omega arith) one in
              below-same n n _ (λ p. sum (d + p)) refl
              (λ p l.
              let e : p + d ≡ d + p = omega arith in
              sum-at xs ys p one (omega arith)
              ∙ (ap (cauchy plus times (at xs) (at ys)) e
              ∙ sym (total-convolution_products plus times (λ x. x) absorbs xs ys (d + p))))
              ∙ sym (part-below (full_length (length xs) (length ys)) sum d n (omega arith)))
        ]
