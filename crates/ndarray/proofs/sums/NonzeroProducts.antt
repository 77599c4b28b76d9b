-- Products of the absolute values of the numbers that are not zero, and of all selections.
use Rattle.std.proofs.Common.{◌≡◌, ◌≢◌, ℕ, zero, suc, Bool, true, false, cond, List, [], ◌∷◌, Option, None, Some, ◌*◌, ◌≤◌, map, refl, sym, ap, ◌∙◌, subst, arith}
use Rattle.std.specs.Prelude.{ℤ, pos, negsuc, neg_ℤ, ◌*ℤ◌, ◌≤ℤ◌, IsPermutation, unsigned_abs}
use Rattle.std.specs.List.{AllByRecursion}
use Rattle.std.proofs.Math.IntN.{*ℤ_comm}
use Rattle.std.proofs.Math.Nat.{mul_assoc}
use Rattle.std.proofs.lemmas.Int.{ints, unsigned_abs-mul}
use Rattle.std.proofs.lemmas.List.Sorted.{All-permutation, IsPermutation-map, IsPermutation-sym}
use Rattle.std.proofs.lemmas.Nat.{mul-le}
use Rattle.num_traits.specs.Laws.{Checks}
use Rattle.ndarray.specs.IntegerProducts.{one-times}
use Rattle.ndarray.specs.Integers.{int_products, magnitude_product, nonzero_magnitude}
use Rattle.ndarray.specs.reduce.NonzeroProducts.{MultipliedSoFar}
use Rattle.ndarray.specs.reduce.SignedSums.{NegativeFits}
use Rattle.ndarray.specs.Sums.{total, select, IsSummable}
use Rattle.ndarray.proofs.lists.Elements.{All-from_recursion, All-to_recursion}
use Rattle.ndarray.proofs.sums.Rearrangements.{total-rearranged}

magnitude-some : (z : ℤ) → 1 ≤ nonzero_magnitude z
magnitude-some (pos zero) = omega arith
magnitude-some (pos (suc n)) = omega arith
magnitude-some (negsuc n) = omega arith

pub magnitude-nonzero : (z : ℤ) → z ≢ pos 0 → nonzero_magnitude z ≡ unsigned_abs z
magnitude-nonzero (pos zero) h = absurd (h refl)
magnitude-nonzero (pos (suc n)) h = refl
magnitude-nonzero (negsuc n) h = refl

magnitude-abs : (z : ℤ) → unsigned_abs z ≤ nonzero_magnitude z
magnitude-abs (pos zero) = omega arith
magnitude-abs (pos (suc n)) = omega arith
magnitude-abs (negsuc n) = omega arith

product-some : (zs : List ℤ) → 1 ≤ magnitude_product zs
product-some [] = omega arith
product-some (z ∷ zs) = let k : 1 * 1 ≤ nonzero_magnitude z * magnitude_product zs = mul-le 1 1 (nonzero_magnitude z) (magnitude_product zs) (magnitude-some z) (product-some zs) in omega (arith, k)

-- ---- the products of all selections

pub negative-product : (fits : ℤ → Type 0) (a b : ℤ) → fits a → NegativeFits fits b → NegativeFits fits (a *ℤ b)
unfolding NegativeFits
negative-product fits (pos a) (pos b) fa hb n e = absurd (cc)
negative-product fits (pos a) (negsuc b) fa hb n e = hb b refl
negative-product fits (negsuc a) b fa hb n e = (a, fa)

module _ (fits : ℤ → Type 0) (between : (x y z : ℤ) → fits x → fits z → x ≤ℤ y → y ≤ℤ z → fits y) (negated : (m n : ℕ) → fits (negsuc m) → fits (pos n) → fits (neg_ℤ (pos n))) (zero_fits : fits (pos 0)) where
  selection : (b : Bool) (z : ℤ) (ys zs : List ℤ) → fits z → (unsigned_abs (total int_products ys) ≤ magnitude_product zs) × NegativeFits fits (total int_products ys)
      → (unsigned_abs (total int_products (cond b (z ∷ ys) ys)) ≤ magnitude_product (z ∷ zs)) × NegativeFits fits (total int_products (cond b (z ∷ ys) ys))
  selection true z ys zs f h =
      let e = unsigned_abs-mul z (total int_products ys) in
      let k : unsigned_abs z * unsigned_abs (total int_products ys) ≤ nonzero_magnitude z * magnitude_product zs = mul-le (unsigned_abs z) (unsigned_abs (total int_products ys)) (nonzero_magnitude z) (magnitude_product zs) (magnitude-abs z) h.0 in
      (subst (λ t. t ≤ nonzero_magnitude z * magnitude_product zs) (sym e) k, negative-product fits z (total int_products ys) f h.1)
  selection false z ys zs f h =
      let k : 1 * magnitude_product zs ≤ nonzero_magnitude z * magnitude_product zs = mul-le 1 (magnitude_product zs) (nonzero_magnitude z) (magnitude_product zs) (magnitude-some z) (omega arith) in
      (omega (arith, k, h.0), h.1)

  selections : (keep : ℕ → Bool) (zs : List ℤ) → AllByRecursion fits zs → (unsigned_abs (total int_products (select keep zs)) ≤ magnitude_product zs) × NegativeFits fits (total int_products (select keep zs))
  unfolding NegativeFits
  selections keep [] f = (omega arith, λ n e. absurd (cc))
  selections keep (z ∷ zs) f = selection (keep 0) z (select (λ i. keep (suc i)) zs) zs f.0 (selections (λ i. keep (suc i)) zs f.1)

  pub within : (t : ℤ) (n : ℕ) → unsigned_abs t ≤ n → fits (pos n) → NegativeFits fits t → fits t
  unfolding NegativeFits
  within (pos m) n le h negative = between (pos 0) (pos m) (pos n) zero_fits h (omega (arith, ints)) (omega (arith, ints))
  within (negsuc m) zero le h negative = absurd (omega arith)
  within (negsuc m) (suc n) le h negative = between (neg_ℤ (pos (suc n))) (negsuc m) (pos 0) (let w = negative m refl in negated w.0 (suc n) w.1 h) zero_fits (omega (arith, ints)) (omega (arith, ints))

  -- where the product of the absolute values fits, so does that of every selection
  pub products-summable : (zs : List ℤ) → AllByRecursion fits zs → fits (pos (magnitude_product zs)) → IsSummable int_products fits zs
  products-summable zs f h = λ keep. let s = selections keep zs f in within (total int_products (select keep zs)) (magnitude_product zs) s.0 h s.1

-- ---- one number after another

some-factor : (a b c : ℕ) → 1 ≤ (a * b) * c → 1 ≤ a
some-factor zero b c h = absurd (omega arith)
some-factor (suc a) b c h = omega arith

pub multiplied-start : (fits : ℤ → Type 0) (whole rest : List ℤ) (product : ℤ) → rest ≡ whole → product ≡ pos 1 → fits (pos 1) → MultipliedSoFar fits whole rest product
multiplied-start fits whole rest product e one h = record {
  number = 1;
  is_number = one;
  in_range = subst fits (sym one) h;
  total_is = (let p = ap magnitude_product e in omega (arith, p));
  each = λ f. subst (AllByRecursion fits) e f;
}

pub multiplied-end : (fits : ℤ → Type 0) (whole rest : List ℤ) (product : ℤ) → rest ≡ [] → MultipliedSoFar fits whole rest product → fits (pos (magnitude_product whole)) × AllByRecursion fits whole
multiplied-end fits whole rest product none h =
    let p = ap magnitude_product none in
    let n : h.number ≡ magnitude_product whole = (let t = ap (λ m. h.number * m) (sym p) ∙ h.total_is in omega (arith, t)) in
    (subst fits (h.is_number ∙ ap pos n) h.in_range, h.each (subst (AllByRecursion fits) (sym none) tt))

-- the next number is z
module _ (fits : ℤ → Type 0) (whole now rest : List ℤ) (z product : ℤ) (next : now ≡ z ∷ rest) (z_fits : fits z) (h : MultipliedSoFar fits whole now product) where
  total-next : (h.number * nonzero_magnitude z) * magnitude_product rest ≡ magnitude_product whole
  total-next = mul_assoc h.number (nonzero_magnitude z) (magnitude_product rest) ∙ (ap (λ l. h.number * magnitude_product l) (sym next) ∙ h.total_is)

  each-next : AllByRecursion fits rest → AllByRecursion fits whole
  each-next f = h.each (subst (AllByRecursion fits) (sym next) (z_fits, f))

  times-is : product *ℤ pos (nonzero_magnitude z) ≡ pos (h.number * nonzero_magnitude z)
  times-is = ap (λ t. t *ℤ pos (nonzero_magnitude z)) h.is_number

  pub multiplied-next : (more : ℤ) → more ≡ product *ℤ pos (nonzero_magnitude z) → fits (product *ℤ pos (nonzero_magnitude z)) → MultipliedSoFar fits whole rest more
  multiplied-next more e f = record {
    number = h.number * nonzero_magnitude z;
    is_number = e ∙ times-is;
    in_range = subst fits (sym e) f;
    total_is = total-next;
    each = each-next;
  }

  module _ (between : (x y z : ℤ) → fits x → fits z → x ≤ℤ y → y ≤ℤ z → fits y) (zero_fits : fits (pos 0)) where
    below : (n m : ℕ) → n ≤ m → fits (pos m) → fits (pos n)
    below n m le f = between (pos 0) (pos n) (pos m) zero_fits f (omega (arith, ints)) (omega (arith, ints))

    -- the absolute value or the product with it is too large, and so is the whole product
    pub multiplied-excess : (fits (pos (nonzero_magnitude z)) × fits (product *ℤ pos (nonzero_magnitude z)) → ⊥) → fits (pos (magnitude_product whole)) → ⊥
    multiplied-excess excess f =
        let s = product-some rest in
        let w = product-some whole in
        let t = total-next in
        let some : 1 ≤ h.number = some-factor h.number (nonzero_magnitude z) (magnitude_product rest) (omega (arith, t, w)) in
        let k : 1 * nonzero_magnitude z ≤ h.number * nonzero_magnitude z = mul-le 1 (nonzero_magnitude z) h.number (nonzero_magnitude z) some (omega arith) in
        let l : (h.number * nonzero_magnitude z) * 1 ≤ (h.number * nonzero_magnitude z) * magnitude_product rest = mul-le (h.number * nonzero_magnitude z) 1 (h.number * nonzero_magnitude z) (magnitude_product rest) (omega arith) s in
        excess (
          below (nonzero_magnitude z) (magnitude_product whole) (omega (arith, k, l, t)) f,
          subst fits (sym times-is) (below (h.number * nonzero_magnitude z) (magnitude_product whole) (omega (arith, l, t)) f),
        )

-- what a checked product with an absolute value that fits answers
pub checked-product : {A : Type 0} (value : A → ℤ) (fits : ℤ → Type 0) (product factor : ℤ) (n : ℕ) (r : Option A) → factor ≡ pos n → fits (pos n) → Checks value fits (product *ℤ factor) r → Checks value (λ z. fits (pos n) × fits z) (product *ℤ pos n) r
checked-product value fits product factor n None e f h = λ both. h (subst (λ t. fits (product *ℤ t)) (sym e) both.1)
checked-product value fits product factor n (Some y) e f h = ((f, subst (λ t. fits (product *ℤ t)) e h.0), h.1 ∙ ap (λ t. product *ℤ t) e)

-- and a product with a factor left out, zero or one
pub product-kept : {A : Type 0} (value : A → ℤ) (fits : ℤ → Type 0) (y : A) (z : ℤ) → nonzero_magnitude z ≡ 1 → fits (pos 1) → fits (value y) → Checks value (λ t. fits (pos (nonzero_magnitude z)) × fits t) (value y *ℤ pos (nonzero_magnitude z)) (Some y)
product-kept value fits y z e one_fits f =
    let same : value y ≡ value y *ℤ pos (nonzero_magnitude z) = sym (*ℤ_comm (value y) (pos 1) ∙ one-times (value y)) ∙ ap (λ k. value y *ℤ pos k) (sym e) in
    ((subst (λ k. fits (pos k)) (sym e) one_fits, subst fits same f), same)

-- ---- in another order

magnitudes-total : (zs : List ℤ) → pos (magnitude_product zs) ≡ total int_products (map (λ z. pos (nonzero_magnitude z)) zs)
magnitudes-total [] = refl
magnitudes-total (z ∷ zs) = ap (λ t. pos (nonzero_magnitude z) *ℤ t) (magnitudes-total zs)

module _ (xs ys : List ℤ) (moved : IsPermutation xs ys) where
  magnitude_product-rearranged : magnitude_product ys ≡ magnitude_product xs
  magnitude_product-rearranged =
      let e : pos (magnitude_product ys) ≡ pos (magnitude_product xs) =
      magnitudes-total ys
      ∙ (total-rearranged int_products (map (λ z. pos (nonzero_magnitude z)) xs) (map (λ z. pos (nonzero_magnitude z)) ys) (IsPermutation-map (λ z. pos (nonzero_magnitude z)) xs ys moved)
      ∙ sym (magnitudes-total xs)) in
      cc

  pub multiplied-rearranged : (fits : ℤ → Type 0) (rest : List ℤ) (product : ℤ) → MultipliedSoFar fits ys rest product → MultipliedSoFar fits xs rest product
  multiplied-rearranged fits rest product h = record {
    number = h.number;
    is_number = h.is_number;
    in_range = h.in_range;
    total_is = h.total_is ∙ magnitude_product-rearranged;
    each = λ f. All-to_recursion fits xs (All-permutation fits ys xs (IsPermutation-sym xs ys moved) (All-from_recursion fits ys (h.each f)));
  }
