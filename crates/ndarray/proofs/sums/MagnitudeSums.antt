-- Sums of absolute values, and the sums of all selections.
use Rattle.std.proofs.Common.{◌≡◌, ℕ, suc, Bool, true, false, cond, List, [], ◌∷◌, ◌++◌, Option, None, Some, ◌+◌, ◌≤◌, append-nil, refl, sym, ap, inl, inr, subst, arith}
use Rattle.std.specs.Prelude.{ℤ, pos, negsuc, neg_ℤ, ◌+ℤ◌, ◌-ℤ◌, ◌*ℤ◌, ◌≤ℤ◌, ◌<ℤ◌, IfSome, IsSome, MatchOption, unsigned_abs}
use Rattle.std.specs.List.{AllByRecursion}
use Rattle.std.proofs.lemmas.Int.{ints}
use Rattle.num_traits.specs.Laws.{Checks}
use Rattle.ndarray.specs.Integers.{int_sums, negative_sum, positive_sum}
use Rattle.ndarray.specs.Products.{magnitude_sum}
use Rattle.ndarray.specs.reduce.SignedSums.{AddedApart, NegativeFits, ProductsApart}
use Rattle.ndarray.specs.Sums.{total, select, IsSummable}
use Rattle.ndarray.proofs.sums.NonzeroProducts.{negative-product, within}
use Rattle.ndarray.proofs.sums.SignedSums.{AddedApart-end, AddedApart-next, AddedApart-start, checked-both, either-sign, negative_sum-negative, positive_sum-positive}

pub own-negative : (fits : ℤ → Type 0) (z : ℤ) → fits z → NegativeFits fits z
unfolding NegativeFits
own-negative fits z f n e = (n, subst fits e f)

-- a product that is negative shows that some negative number fits
pub negative-of_fits : (fits : ℤ → Type 0) (a b : ℤ) → fits a → fits b → NegativeFits fits (a *ℤ b)
negative-of_fits fits a b fa fb = negative-product fits a b fa (own-negative fits b fb)

none-negative : (fits : ℤ → Type 0) → NegativeFits fits (pos 0)
unfolding NegativeFits
none-negative fits n e = absurd (cc)

pub abs-sum : (a b : ℤ) → unsigned_abs (a +ℤ b) ≤ unsigned_abs a + unsigned_abs b
abs-sum (pos a) (pos b) = omega (arith, ints)
abs-sum (pos a) (negsuc b) = omega (arith, ints)
abs-sum (negsuc a) (pos b) = omega (arith, ints)
abs-sum (negsuc a) (negsuc b) = omega (arith, ints)

pub negative-sum : (fits : ℤ → Type 0) (a b : ℤ) → NegativeFits fits a → NegativeFits fits b → NegativeFits fits (a +ℤ b)
unfolding NegativeFits
negative-sum fits (pos a) (pos b) ha hb n e = absurd (omega (arith, ints, e))
negative-sum fits (pos a) (negsuc b) ha hb n e = hb b refl
negative-sum fits (negsuc a) b ha hb n e = ha a refl

module _ (fits : ℤ → Type 0) where
  selection : (b : Bool) (z : ℤ) (ys zs : List ℤ) → NegativeFits fits z → (unsigned_abs (total int_sums ys) ≤ magnitude_sum zs) × NegativeFits fits (total int_sums ys)
      → (unsigned_abs (total int_sums (cond b (z ∷ ys) ys)) ≤ magnitude_sum (z ∷ zs)) × NegativeFits fits (total int_sums (cond b (z ∷ ys) ys))
  selection true z ys zs f h =
      let s = abs-sum z (total int_sums ys) in
      (omega (arith, s, h.0), negative-sum fits z (total int_sums ys) f h.1)
  selection false z ys zs f h = (omega (arith, h.0), h.1)

  selections : (keep : ℕ → Bool) (zs : List ℤ) → AllByRecursion (NegativeFits fits) zs → (unsigned_abs (total int_sums (select keep zs)) ≤ magnitude_sum zs) × NegativeFits fits (total int_sums (select keep zs))
  selections keep [] f = (omega arith, none-negative fits)
  selections keep (z ∷ zs) f = selection (keep 0) z (select (λ i. keep (suc i)) zs) zs f.0 (selections (λ i. keep (suc i)) zs f.1)

  -- where the sum of the absolute values fits, so does that of every selection
  pub magnitudes-summable : ((x y z : ℤ) → fits x → fits z → x ≤ℤ y → y ≤ℤ z → fits y) → ((m n : ℕ) → fits (negsuc m) → fits (pos n) → fits (neg_ℤ (pos n))) → fits (pos 0)
      → (zs : List ℤ) → AllByRecursion (NegativeFits fits) zs → fits (pos (magnitude_sum zs)) → IsSummable int_sums fits zs
  magnitudes-summable between negated zero_fits zs f h = λ keep. let s = selections keep zs f in within fits between negated zero_fits (total int_sums (select keep zs)) (magnitude_sum zs) s.0 h s.1

-- ---- positive and negative products added apart

-- the absolute values of all numbers add up to what the positive ones do, less what the negative ones do
magnitudes-apart : (zs : List ℤ) → positive_sum zs ≡ pos (magnitude_sum zs) +ℤ negative_sum zs
magnitudes-apart [] = refl
magnitudes-apart (pos n ∷ zs) = let h = magnitudes-apart zs in omega (arith, ints, h)
magnitudes-apart (negsuc n ∷ zs) = let h = magnitudes-apart zs in omega (arith, ints, h)

negative-abs : (z : ℤ) → z ≤ℤ pos 0 → pos (unsigned_abs z) +ℤ z ≡ pos 0
negative-abs (pos n) h = omega (arith, ints, h)
negative-abs (negsuc n) h = omega (arith, ints)

-- the next number is no larger than all absolute values together
small-number : (fits : ℤ → Type 0) (whole rest : List ℤ) (z up down : ℤ) → AddedApart fits whole (z ∷ rest) up down → unsigned_abs z ≤ magnitude_sum whole
small-number fits whole rest (pos n) up down h =
    let a = magnitudes-apart whole in
    let b = negative_sum-negative whole in
    let r = positive_sum-positive rest in
    omega (arith, ints, a, b, r, h.up_sum, h.up_positive)
small-number fits whole rest (negsuc n) up down h =
    let a = magnitudes-apart whole in
    let b = positive_sum-positive whole in
    let r = negative_sum-negative rest in
    omega (arith, ints, a, b, r, h.down_sum, h.down_negative)

-- nor is the sum of its sign with it
small-up : (fits : ℤ → Type 0) (whole rest : List ℤ) (z up down : ℤ) → AddedApart fits whole (z ∷ rest) up down → pos 0 ≤ℤ z → (up +ℤ z) ≤ℤ pos (magnitude_sum whole)
small-up fits whole rest (pos n) up down h positive =
    let a = magnitudes-apart whole in
    let b = negative_sum-negative whole in
    let r = positive_sum-positive rest in
    omega (arith, ints, a, b, r, h.up_sum, h.up_positive)
small-up fits whole rest (negsuc n) up down h positive = absurd (omega (arith, ints, positive))

small-down : (fits : ℤ → Type 0) (whole rest : List ℤ) (z up down : ℤ) → AddedApart fits whole (z ∷ rest) up down → z <ℤ pos 0 → unsigned_abs (down +ℤ z) ≤ magnitude_sum whole
small-down fits whole rest (pos n) up down h negative = absurd (omega (arith, ints, negative))
small-down fits whole rest (negsuc n) up down h negative =
    let a = magnitudes-apart whole in
    let b = positive_sum-positive whole in
    let r = negative_sum-negative rest in
    let below : (down +ℤ negsuc n) ≤ℤ pos 0 = omega (arith, ints, h.down_negative) in
    let size = negative-abs (down +ℤ negsuc n) below in
    omega (arith, ints, a, b, r, h.down_sum, size)

pub apart-start : (fits : ℤ → Type 0) (whole : List ℤ) (up down : ℤ) → fits (pos 0) → up ≡ pos 0 → down ≡ pos 0 → ProductsApart fits whole whole up down
apart-start fits whole up down h e f = record { apart = AddedApart-start fits whole whole up down refl h e f; signs = λ k. k }

-- all numbers are left, and none behind them
pub apart-all : (fits : ℤ → Type 0) (whole : List ℤ) (up down : ℤ) → ProductsApart fits whole whole up down → ProductsApart fits whole (whole ++ []) up down
apart-all fits whole up down h = subst (λ l. ProductsApart fits whole l up down) (sym (append-nil whole)) h

module _ (fits : ℤ → Type 0) (between : (x y z : ℤ) → fits x → fits z → x ≤ℤ y → y ≤ℤ z → fits y) (negated : (m n : ℕ) → fits (negsuc m) → fits (pos n) → fits (neg_ℤ (pos n))) (zero_fits : fits (pos 0)) (whole : List ℤ) where
  -- the next number is z
  module _ (rest : List ℤ) (z : ℤ) (sign : NegativeFits fits z) {T : Type 0} (v : T → ℤ) (up down : T) (h : ProductsApart fits whole (z ∷ rest) (v up) (v down)) where
    -- it is too large, and so are all absolute values together
    pub apart-excess : (fits z → ⊥) → fits (pos (magnitude_sum whole)) → ⊥
    apart-excess excess f = excess (within fits between negated zero_fits z (magnitude_sum whole) (small-number fits whole rest z (v up) (v down) h.apart) f sign)

    up-fits : pos 0 ≤ℤ z → fits (pos (magnitude_sum whole)) → fits (v up +ℤ z)
    up-fits positive f = between (pos 0) (v up +ℤ z) (pos (magnitude_sum whole)) zero_fits f (omega (arith, ints, h.apart.up_positive, positive)) (small-up fits whole rest z (v up) (v down) h.apart positive)

    down-fits : z <ℤ pos 0 → fits (pos (magnitude_sum whole)) → fits (v down +ℤ z)
    down-fits negative f =
        within fits between negated zero_fits (v down +ℤ z) (magnitude_sum whole) (small-down fits whole rest z (v up) (v down) h.apart negative) f
        (negative-sum fits (v down) z (own-negative fits (v down) h.apart.down_fits) sign)

    -- what adding it to the sum of its sign gives
    pub apart-added : {S : Type 0} (up_of down_of : S → T) (r : Option S) → (pos 0 ≤ℤ z → Checks (λ s. v (up_of s)) fits (v up +ℤ z) r × IfSome r (λ s. down_of s ≡ down))
        → (z <ℤ pos 0 → Checks (λ s. v (down_of s)) fits (v down +ℤ z) r × IfSome r (λ s. up_of s ≡ up))
        → MatchOption r (fits (pos (magnitude_sum whole)) → ⊥) (λ s. ProductsApart fits whole rest (v (up_of s)) (v (down_of s)))
    apart-added up_of down_of None positive negative = λ f. elim (either-sign z) [ inl p ↦ (positive p).0 (up-fits p f) | inr n ↦ (negative n).0 (down-fits n f) ]
    apart-added up_of down_of (Some s) positive negative = record {
      apart = AddedApart-next fits whole (z ∷ rest) rest z (v up) (v down) refl h.apart (v (up_of s)) (v (down_of s))
          (λ p. let t = positive p in (t.0, ap v t.1))
          (λ n. let t = negative n in (t.0, ap v t.1));
      signs = λ k. h.signs (sign, k);
    }

  -- none is left
  module _ (up down : ℤ) (h : ProductsApart fits whole [] up down) where
    -- all absolute values together
    pub joined-magnitude : up +ℤ (pos 0 -ℤ down) ≡ pos (magnitude_sum whole)
    joined-magnitude = let a = magnitudes-apart whole in omega (arith, ints, a, h.apart.up_sum, h.apart.down_sum)

    pub joined-size : fits (pos (magnitude_sum whole)) → fits (pos 0 -ℤ down)
    joined-size f =
        let a = magnitudes-apart whole in
        let b = positive_sum-positive whole in
        between (pos 0) (pos 0 -ℤ down) (pos (magnitude_sum whole)) zero_fits f (omega (arith, ints, h.apart.down_negative)) (omega (arith, ints, a, b, h.apart.down_sum))

    pub joined-summable : fits (pos (magnitude_sum whole)) → IsSummable int_sums fits whole
    joined-summable f = magnitudes-summable fits between negated zero_fits whole (h.signs tt) f

    -- both sums may be added, and make that of all numbers
    pub joined-sum : {A : Type 0} (value : A → ℤ) (r : Option A) → Checks value fits (up +ℤ down) r → IsSome r × IfSome r (λ s. value s ≡ total int_sums whole)
    joined-sum value r c =
        let both = checked-both value fits whole up down r between h.apart c in
        (both.0.1 (AddedApart-end fits whole [] up down refl h.apart), both.1)
