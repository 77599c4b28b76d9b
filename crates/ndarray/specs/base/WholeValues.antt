-- What follows of elements whose values are whole numbers: of sums and products, and of the lists of which every selection is in range.
use Rattle.std.specs.Prelude.{◌≡◌, ℕ, ℤ, suc, Bool, true, false, List, [], ◌∷◌, map}
use Rattle.std.proofs.Common.{ap, cond, refl, subst, sym, ◌∙◌}
use Rattle.ndarray.specs.Algebra.{CommutativeMonoid}
use Rattle.ndarray.specs.Integers.{int_products, int_sums}
use Rattle.ndarray.specs.Products.{products_of}
use Rattle.ndarray.specs.Sums.{IsSummable, IsSummableBy, select, total, total_by}
use Rattle.ndarray.specs.WholeValues.{HasWholeValues, whole_numbers}
use Rattle.ndarray.specs.declared.elements.Valued.{Ghosts as ValuedGhosts}

-- Two operations, of values and of their whole numbers.
module _ {C : Type 0} (M : CommutativeMonoid C) (N : CommutativeMonoid ℤ) (whole : C → ℤ) (unit : whole M.unit ≡ N.unit) (op : (x y : C) → whole (M.op x y) ≡ N.op (whole x) (whole y)) where
  -- the sum of elements
  total-whole : {A : Type 0} (meaning : A → C) (number : A → ℤ) → ((x : A) → whole (meaning x) ≡ number x) → (xs : List A) → whole (total_by M meaning xs) ≡ total_by N number xs
  total-whole meaning number element [] = unit
  total-whole meaning number element (x ∷ xs) =
      op (meaning x) (total_by M meaning xs)
      ∙ (ap (λ t. N.op t (whole (total_by M meaning xs))) (element x) ∙ ap (N.op (number x)) (total-whole meaning number element xs))

  one-whole : (b : Bool) (z : C) (zs : List C) (us : List ℤ) → whole (total M zs) ≡ total N us → whole (total M (cond b (z ∷ zs) zs)) ≡ total N (cond b (whole z ∷ us) us)
  one-whole true z zs us e = op z (total M zs) ∙ ap (N.op (whole z)) e
  one-whole false z zs us e = e

  -- the sum of a selection of values
  select-whole : (keep : ℕ → Bool) (zs : List C) → whole (total M (select keep zs)) ≡ total N (select keep (map whole zs))
  select-whole keep [] = unit
  select-whole keep (z ∷ zs) = one-whole (keep 0) z (select (λ i. keep (suc i)) zs) (select (λ i. keep (suc i)) (map whole zs)) (select-whole (λ i. keep (suc i)) zs)

by-map : {C : Type 0} (whole : C → ℤ) (zs : List C) → total_by int_sums whole zs ≡ total int_sums (map whole zs)
by-map whole [] = refl
by-map whole (z ∷ zs) = ap (int_sums.op (whole z)) (by-map whole zs)

-- the products of two lists
products-whole : {A C : Type 0} (times : CommutativeMonoid C) (whole : C → ℤ) (meaning : A → C) (number : A → ℤ)
    → ((x y : C) → whole (times.op x y) ≡ int_products.op (whole x) (whole y)) → ((x : A) → whole (meaning x) ≡ number x)
    → (xs ys : List A) → map whole (products_of times meaning xs ys) ≡ products_of int_products number xs ys
products-whole times whole meaning number op element [] ys = refl
products-whole times whole meaning number op element (x ∷ xs) [] = refl
products-whole times whole meaning number op element (x ∷ xs) (y ∷ ys) =
    let rest = products-whole times whole meaning number op element xs ys in
    let first = op (meaning x) (meaning y) ∙ (ap (λ t. int_products.op t (whole (meaning y))) (element x) ∙ ap (int_products.op (number x)) (element y)) in
    ap (λ t. t ∷ map whole (products_of times meaning xs ys)) first ∙ ap (λ l. int_products.op (number x) (number y) ∷ l) rest

module _ {A : Type 0} {e : ValuedGhosts A} {number : A → ℤ} {fits : ℤ → Type 0} (w : HasWholeValues e number fits) where
  pub whole-summable : (xs : List A) → IsSummableBy int_sums fits number xs → IsSummableBy e.addition e.InRange e.meaning xs
  whole-summable xs h keep = (w.in_range (total_by e.addition e.meaning (select keep xs))).1
      (subst fits (sym (total-whole e.addition int_sums w.whole w.zero w.sum e.meaning number w.element (select keep xs))) (h keep))

  pub whole-multipliable : (xs : List A) → IsSummableBy int_products fits number xs → IsSummableBy e.multiplication e.InRange e.meaning xs
  whole-multipliable xs h keep = (w.in_range (total_by e.multiplication e.meaning (select keep xs))).1
      (subst fits (sym (total-whole e.multiplication int_products w.whole w.one w.product e.meaning number w.element (select keep xs))) (h keep))

  -- of values whose numbers are these
  pub values-summable : (zs : List e.Carrier) (us : List ℤ) → map w.whole zs ≡ us → IsSummable int_sums fits us → IsSummable e.addition e.InRange zs
  values-summable zs us same h keep = (w.in_range (total e.addition (select keep zs))).1
      (subst fits (sym (select-whole e.addition int_sums w.whole w.zero w.sum keep zs ∙ ap (λ l. total int_sums (select keep l)) same)) (h keep))

  pub whole-inner : (xs ys : List A) → IsSummable int_sums fits (products_of int_products number xs ys) → IsSummable e.addition e.InRange (products_of e.multiplication e.meaning xs ys)
  whole-inner xs ys h = values-summable (products_of e.multiplication e.meaning xs ys) (products_of int_products number xs ys) (products-whole e.multiplication w.whole e.meaning number w.product w.element xs ys) h

  -- the number of an element that is a sum, a product, or an inner sum
  pub whole-sum : (x : A) (xs : List A) → e.meaning x ≡ total_by e.addition e.meaning xs → number x ≡ total_by int_sums number xs
  whole-sum x xs is = sym (w.element x) ∙ (ap w.whole is ∙ total-whole e.addition int_sums w.whole w.zero w.sum e.meaning number w.element xs)

  pub whole-product : (x : A) (xs : List A) → e.meaning x ≡ total_by e.multiplication e.meaning xs → number x ≡ total_by int_products number xs
  whole-product x xs is = sym (w.element x) ∙ (ap w.whole is ∙ total-whole e.multiplication int_products w.whole w.one w.product e.meaning number w.element xs)

  pub whole-inner_sum : (x : A) (xs ys : List A) → e.meaning x ≡ total e.addition (products_of e.multiplication e.meaning xs ys) → number x ≡ total int_sums (products_of int_products number xs ys)
  whole-inner_sum x xs ys is =
      let zs = products_of e.multiplication e.meaning xs ys in
      let us = products_of int_products number xs ys in
      sym (w.element x) ∙ (ap w.whole is
      ∙ (total-whole e.addition int_sums w.whole w.zero w.sum (λ z. z) w.whole (λ z. refl) zs
      ∙ (by-map w.whole zs ∙ ap (total int_sums) (products-whole e.multiplication w.whole e.meaning number w.product w.element xs ys))))

-- whole numbers are their own
pub whole-values : {A : Type 0} (number : A → ℤ) (fits : ℤ → Type 0) → HasWholeValues (whole_numbers number fits) number fits
whole-values number fits = record {
  whole = λ z. z;
  element = λ x. refl;
  zero = refl;
  one = refl;
  sum = λ x y. refl;
  product = λ x y. refl;
  in_range = λ z. (λ h. h, λ h. h);
}
