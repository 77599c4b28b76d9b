-- Sums of products of numbers whose absolute values are at most given ones.
use Rattle.std.proofs.Common.{◌≡◌, ◌⊎◌, ◌∙◌, ℕ, zero, suc, ◌+◌, ◌-◌, ◌*◌, ◌/◌, ◌≤◌, List, [], ◌∷◌, ap, arith, inl, inr, length, map, subst, sym}
use Rattle.std.specs.Prelude.{All, Contains, ℤ, pos, negsuc, neg_ℤ, ◌+ℤ◌, ◌*ℤ◌, ◌-ℤ◌, ◌≤ℤ◌, IsPermutation, unsigned_abs}
use Rattle.std.specs.List.{AllByRecursion}
use Rattle.std.proofs.lemmas.Int.{ints, unsigned_abs-mul}
use Rattle.std.proofs.lemmas.List.{nil_from_length}
use Rattle.std.proofs.lemmas.List.Elements.{All-cons, All-head, All-nil, All-tail, All-weaker}
use Rattle.std.proofs.lemmas.List.Sorted.{All-permutation, Contains-permutation, IsPermutation-sym}
use Rattle.std.proofs.lemmas.Nat.{mul-le}
use Rattle.ndarray.specs.Integers.{int_products, int_sums}
use Rattle.ndarray.specs.Matrices.{Matrix, inner_products, values_below}
use Rattle.ndarray.specs.Products.{magnitude_sum, products_of}
use Rattle.ndarray.specs.reduce.SignedSums.{NegativeFits}
use Rattle.ndarray.specs.reduce.SmallProducts.{AreUpTo, ExtremesSoFar, HaveSmallProducts, IsSumInRange, IsZeroOrIn}
use Rattle.ndarray.specs.Sums.{IsSummable, total}
use Rattle.ndarray.proofs.cells.EntryTests.{EntriesFit}
use Rattle.ndarray.proofs.lists.Elements.{mapped-all}
use Rattle.ndarray.proofs.lists.Pairs.{Contains-first, Contains-later}
use Rattle.ndarray.proofs.sums.InnerSums.{products-ended, products-next}
use Rattle.ndarray.proofs.sums.MagnitudeSums.{abs-sum, magnitudes-summable, negative-of_fits, negative-sum, own-negative}
use Rattle.ndarray.proofs.sums.NonzeroProducts.{within}

-- ---- the least and the greatest

-- a number between two, of which the one is less than zero by at most as much as the other is more
within-largest : (z least greatest largest : ℤ) → least ≤ℤ z → z ≤ℤ greatest → (pos 0 -ℤ least) ≤ℤ largest → greatest ≤ℤ largest → unsigned_abs z ≤ unsigned_abs largest
within-largest z least greatest largest low high down up = omega (arith, ints, low, high, down, up)

-- zero or a number of one list is zero or one of another that has all its numbers
found-in : (xs ys : List ℤ) (z : ℤ) → ((y : ℤ) → Contains xs y → Contains ys y) → IsZeroOrIn xs z → IsZeroOrIn ys z
found-in xs ys z all (inl none) = inl none
found-in xs ys z all (inr there) = inr (all z there)

-- one of two numbers that are so
found-or : (whole : List ℤ) (z old new : ℤ) → Contains whole z → (new ≡ z) ⊎ (new ≡ old) → IsZeroOrIn whole old → IsZeroOrIn whole new
found-or whole z old new there (inl is) found = inr (subst (Contains whole) (sym is) there)
found-or whole z old new there (inr is) found = subst (IsZeroOrIn whole) (sym is) found

-- of elements that are equal so are the numbers
pub of-one : {A : Type 0} (v : A → ℤ) {r x y : A} → (r ≡ x) ⊎ (r ≡ y) → (v r ≡ v x) ⊎ (v r ≡ v y)
of-one v (inl is) = inl (ap v is)
of-one v (inr is) = inr (ap v is)

module _ (fits : ℤ → Type 0) where
  pub extremes-start : (whole : List ℤ) (least greatest : ℤ) → least ≡ pos 0 → greatest ≡ pos 0 → ExtremesSoFar fits whole whole least greatest
  extremes-start whole least greatest low high = record {
    up_to_zero = omega (arith, ints, low);
    from_zero = omega (arith, ints, high);
    others = λ l h _ _ between. between;
    within = λ z there. there;
    least_found = inl low;
    greatest_found = inl high;
  }

  -- of the same numbers in another order
  pub extremes-moved : (xs ys rest : List ℤ) (least greatest : ℤ) → IsPermutation xs ys → ExtremesSoFar fits ys rest least greatest → ExtremesSoFar fits xs rest least greatest
  extremes-moved xs ys rest least greatest moved h = record {
    up_to_zero = h.up_to_zero;
    from_zero = h.from_zero;
    others = λ low high below above between. All-permutation (λ z. fits z × (low ≤ℤ z) × (z ≤ℤ high)) ys xs (IsPermutation-sym xs ys moved) (h.others low high below above between);
    within = λ z there. Contains-permutation ys xs z (IsPermutation-sym xs ys moved) (h.within z there);
    least_found = found-in ys xs least (λ z there. Contains-permutation ys xs z (IsPermutation-sym xs ys moved) there) h.least_found;
    greatest_found = found-in ys xs greatest (λ z there. Contains-permutation ys xs z (IsPermutation-sym xs ys moved) there) h.greatest_found;
  }

  pub extremes-next : (whole rest : List ℤ) (z least greatest less more : ℤ) → fits z → (less ≤ℤ z) × (less ≤ℤ least) → (less ≡ z) ⊎ (less ≡ least) → (z ≤ℤ more) × (greatest ≤ℤ more) → (more ≡ z) ⊎ (more ≡ greatest)
      → ExtremesSoFar fits whole (z ∷ rest) least greatest → ExtremesSoFar fits whole rest less more
  extremes-next whole rest z least greatest less more f low which_low high which_high h = record {
    up_to_zero = omega (arith, ints, h.up_to_zero, low.1);
    from_zero = omega (arith, ints, h.from_zero, high.1);
    others = λ l u below above between.
        h.others l u (omega (arith, ints, below, low.1)) (omega (arith, ints, above, high.1))
        (All-cons (λ y. fits y × (l ≤ℤ y) × (y ≤ℤ u)) z rest (f, omega (arith, ints, below, low.0), omega (arith, ints, above, high.0)) between);
    within = λ y there. h.within y (Contains-later z rest y there);
    least_found = found-or whole z least less (h.within z (Contains-first z rest)) which_low h.least_found;
    greatest_found = found-or whole z greatest more (h.within z (Contains-first z rest)) which_high h.greatest_found;
  }

  -- the largest absolute value
  pub extremes-all : (whole : List ℤ) (least greatest size largest : ℤ) → size ≡ pos 0 -ℤ least → (size ≤ℤ largest) × (greatest ≤ℤ largest) → ExtremesSoFar fits whole [] least greatest → (m : ℕ) × (largest ≡ pos m) × AreUpTo fits m whole
  extremes-all whole least greatest size largest is up h =
      let down : (pos 0 -ℤ least) ≤ℤ largest = subst (λ z. z ≤ℤ largest) is up.0 in (
        unsigned_abs largest,
        omega (arith, ints, h.from_zero, up.1),
        All-weaker (λ z. fits z × (least ≤ℤ z) × (z ≤ℤ greatest)) (λ z. fits z × (unsigned_abs z ≤ unsigned_abs largest)) (λ z e. (e.0, within-largest z least greatest largest e.1 e.2 down up.1)) whole
            (h.others least greatest (omega (arith, ints)) (omega (arith, ints)) (All-nil (λ z. fits z × (least ≤ℤ z) × (z ≤ℤ greatest)))),
      )

-- ---- so many times a number

-- doubled as often as the count is halved
pub doubled-more : (t s left : ℕ) → t ≤ s * left → t ≤ (s + s) * (left - left / 2)
doubled-more t s left le =
    let half : left ≤ 2 * (left - left / 2) = omega arith in
    let more = mul-le s left s (2 * (left - left / 2)) (omega arith) half in
    let same : s * (2 * (left - left / 2)) ≡ (s + s) * (left - left / 2) = grind arith in
    omega (arith, le, more, same)

-- ---- sums of small products

magnitudes-below : (f : ℕ → ℤ) (m n : ℕ) → ((k : ℕ) → unsigned_abs (f k) ≤ m) → magnitude_sum (values_below n f) ≤ n * m
magnitudes-below f m zero each = omega arith
magnitudes-below f m (suc n) each =
    let first = each 0 in
    let rest = magnitudes-below (λ k. f (suc k)) m n (λ k. each (suc k)) in
    omega (arith, first, rest)

signs-below : (fits : ℤ → Type 0) (f : ℕ → ℤ) (n : ℕ) → ((k : ℕ) → NegativeFits fits (f k)) → AllByRecursion (NegativeFits fits) (values_below n f)
signs-below fits f zero each = tt
signs-below fits f (suc n) each = (each 0, signs-below fits (λ k. f (suc k)) n (λ k. each (suc k)))

-- of two lists
module _ (fits : ℤ → Type 0) {A : Type 0} (v : A → ℤ) (m n : ℕ) where
  products-below : (xs ys : List A) → All (λ x. fits (v x) × (unsigned_abs (v x) ≤ m)) xs → All (λ y. fits (v y) × (unsigned_abs (v y) ≤ n)) ys → magnitude_sum (products_of int_products v xs ys) ≤ length ys * (m * n)
  products-below [] ys left right = omega arith
  products-below (x ∷ xs) [] left right = omega arith
  products-below (x ∷ xs) (y ∷ ys) left right =
      let size = unsigned_abs-mul (v x) (v y) in
      let first = mul-le (unsigned_abs (v x)) (unsigned_abs (v y)) m n (All-head (λ x. fits (v x) × (unsigned_abs (v x) ≤ m)) x xs left).1 (All-head (λ y. fits (v y) × (unsigned_abs (v y) ≤ n)) y ys right).1 in
      let rest = products-below xs ys (All-tail (λ x. fits (v x) × (unsigned_abs (v x) ≤ m)) x xs left) (All-tail (λ y. fits (v y) × (unsigned_abs (v y) ≤ n)) y ys right) in
      omega (arith, size, first, rest)

  product-signs : (xs ys : List A) → All (λ x. fits (v x) × (unsigned_abs (v x) ≤ m)) xs → All (λ y. fits (v y) × (unsigned_abs (v y) ≤ n)) ys → AllByRecursion (NegativeFits fits) (products_of int_products v xs ys)
  product-signs [] ys left right = tt
  product-signs (x ∷ xs) [] left right = tt
  product-signs (x ∷ xs) (y ∷ ys) left right = (
    negative-of_fits fits (v x) (v y) (All-head (λ x. fits (v x) × (unsigned_abs (v x) ≤ m)) x xs left).0 (All-head (λ y. fits (v y) × (unsigned_abs (v y) ≤ n)) y ys right).0,
    product-signs xs ys (All-tail (λ x. fits (v x) × (unsigned_abs (v x) ≤ m)) x xs left) (All-tail (λ y. fits (v y) × (unsigned_abs (v y) ≤ n)) y ys right),
  )

module _ (fits : ℤ → Type 0) (between : (x y z : ℤ) → fits x → fits z → x ≤ℤ y → y ≤ℤ z → fits y) (zero_fits : fits (pos 0)) where
  pub below-fits : (m : ℕ) (z : ℤ) → pos m ≤ℤ z → fits z → fits (pos m)
  below-fits m z le h = between (pos 0) (pos m) z zero_fits h (omega (arith, ints)) le

  pub smaller-fits : (m n : ℕ) → m ≤ n → fits (pos n) → fits (pos m)
  smaller-fits m n le h = below-fits m (pos n) (omega (arith, ints, le)) h

  -- two matrices whose numbers are small
  pub small-entries : ((m n : ℕ) → fits (negsuc m) → fits (pos n) → fits (neg_ℤ (pos n))) → (a b : Matrix ℤ) (m n : ℕ) → ((i k : ℕ) → fits (a.cell i k) × (unsigned_abs (a.cell i k) ≤ m)) → ((k j : ℕ) → fits (b.cell k j) × (unsigned_abs (b.cell k j) ≤ n)) → fits (pos (a.columns * (m * n))) → EntriesFit fits a b
  small-entries negated a b m n left right all i j row column =
      let product : ℕ → ℤ = λ k. a.cell i k *ℤ b.cell k j in
      let small = magnitudes-below product (m * n) a.columns
      (λ k. let size = unsigned_abs-mul (a.cell i k) (b.cell k j) in let le = mul-le (unsigned_abs (a.cell i k)) (unsigned_abs (b.cell k j)) m n (left i k).1 (right k j).1 in omega (arith, size, le)) in
      let fit = smaller-fits (magnitude_sum (inner_products int_products a b i j)) (a.columns * (m * n)) small all in
      (fit, magnitudes-summable fits between negated zero_fits (inner_products int_products a b i j) (signs-below fits product a.columns (λ k. negative-of_fits fits (a.cell i k) (b.cell k j) (left i k).0 (right k j).0)) fit)

  module _ (negated : (m n : ℕ) → fits (negsuc m) → fits (pos n) → fits (neg_ℤ (pos n))) {A : Type 0} (v : A → ℤ) where
    -- two lists whose numbers are small
    pub small-lists : (xs ys : List A) (count m n : ℕ) → All (λ x. fits (v x) × (unsigned_abs (v x) ≤ m)) xs → All (λ y. fits (v y) × (unsigned_abs (v y) ≤ n)) ys → length ys ≤ count → fits (pos (count * (m * n)))
        → fits (pos (magnitude_sum (products_of int_products v xs ys))) × IsSummable int_sums fits (products_of int_products v xs ys)
    small-lists xs ys count m n left right most all =
        let products = products_of int_products v xs ys in
        let below = products-below fits v m n xs ys left right in
        let more = mul-le (length ys) (m * n) count (m * n) most (omega arith) in
        let fit = smaller-fits (magnitude_sum products) (count * (m * n)) (omega (arith, below, more)) all in
        (fit, magnitudes-summable fits between negated zero_fits products (product-signs fits v m n xs ys left right) fit)

    -- the cells of two vectors
    pub small-vectors : (xs ys : List A) → HaveSmallProducts fits (length ys) (map v xs) (map v ys)
        → fits (pos (magnitude_sum (products_of int_products v xs ys))) × IsSummable int_sums fits (products_of int_products v xs ys)
    small-vectors xs ys small =
        small-lists xs ys (length ys) small.left small.right
        (mapped-all (λ z. fits z × (unsigned_abs z ≤ small.left)) v xs small.left_up_to)
        (mapped-all (λ z. fits z × (unsigned_abs z ≤ small.right)) v ys small.right_up_to) (omega arith) small.in_range

-- ---- the products of small numbers of two lists, added up one after another

-- a number between one bound and a number that is at least its negative
pub small-between : (fits : ℤ → Type 0) (z least most : ℤ) → pos 0 ≤ℤ most → (pos 0 ≤ℤ most → (pos 0 -ℤ most) ≤ℤ least) → fits z → (least ≤ℤ z) × (z ≤ℤ most) → fits z × (unsigned_abs z ≤ unsigned_abs most)
small-between fits z least most from_zero down f h = let low = down from_zero in (f, omega (arith, ints, from_zero, low, h.0, h.1))

-- sum is what the products before those of ps and qs add up to, and the numbers of these are small
pub record SmallSum (fits : ℤ → Type 0) {A : Type 0} (v : A → ℤ) (xs ys : List A) (m : ℕ) (ps qs : List A) (sum : ℤ) : Type 0 where
  pub same : length ps ≡ length qs
  pub left : All (λ x. fits (v x) × (unsigned_abs (v x) ≤ m)) ps → All (λ x. fits (v x) × (unsigned_abs (v x) ≤ m)) xs
  pub right : All (λ y. fits (v y) × (unsigned_abs (v y) ≤ m)) qs → All (λ y. fits (v y) × (unsigned_abs (v y) ≤ m)) ys
  pub size : unsigned_abs sum + length qs * (m * m) ≤ length ys * (m * m)
  pub sum_fits : fits sum
  pub sums : sum +ℤ total int_sums (products_of int_products v ps qs) ≡ total int_sums (products_of int_products v xs ys)

module _ (fits : ℤ → Type 0) (between : (x y z : ℤ) → fits x → fits z → x ≤ℤ y → y ≤ℤ z → fits y) (zero_fits : fits (pos 0)) (negated : (m n : ℕ) → fits (negsuc m) → fits (pos n) → fits (neg_ℤ (pos n)))
    {A : Type 0} (v : A → ℤ) (xs ys : List A) (m : ℕ) where
  abbrev IsSmall : A → Type 0
  IsSmall x = fits (v x) × (unsigned_abs (v x) ≤ m)

  pub small-start : (ps qs : List A) (sum : ℤ) → ps ≡ xs → qs ≡ ys → length xs ≡ length ys → sum ≡ pos 0 → SmallSum fits v xs ys m ps qs sum
  small-start ps qs sum e f same none =
      let products = ap (λ l. products_of int_products v l qs) e ∙ ap (products_of int_products v xs) f in
      let many = ap length f in
      record {
        same = ap length e ∙ (same ∙ sym many);
        left = subst (All IsSmall) e;
        right = subst (All IsSmall) f;
        size = subst (λ k. unsigned_abs sum + length qs * (m * m) ≤ k * (m * m)) many (let z = ap unsigned_abs none in omega (arith, z));
        sum_fits = subst fits (sym none) zero_fits;
        sums = ap (λ z. z +ℤ total int_sums (products_of int_products v ps qs)) none ∙ (int_sums.unit_op (total int_sums (products_of int_products v ps qs)) ∙ ap (total int_sums) products);
      }

  -- the next two are x and y
  module _ (all : fits (pos (length ys * (m * m)))) (ps qs ps1 qs1 : List A) (x y : A) (sum : ℤ) (e : ps ≡ x ∷ ps1) (f : qs ≡ y ∷ qs1) (small_x : IsSmall x) (small_y : IsSmall y) (h : SmallSum fits v xs ys m ps qs sum) where
    product-size : unsigned_abs (v x *ℤ v y) ≤ m * m
    product-size = let size = unsigned_abs-mul (v x) (v y) in let le = mul-le (unsigned_abs (v x)) (unsigned_abs (v y)) m m small_x.1 small_y.1 in omega (arith, size, le)

    size-left : unsigned_abs sum + length (y ∷ qs1) * (m * m) ≤ length ys * (m * m)
    size-left = subst (λ l. unsigned_abs sum + length l * (m * m) ≤ length ys * (m * m)) f h.size

    sign : NegativeFits fits (v x *ℤ v y)
    sign = negative-of_fits fits (v x) (v y) small_x.0 small_y.0

    size-added : unsigned_abs (sum +ℤ (v x *ℤ v y)) + length qs1 * (m * m) ≤ length ys * (m * m)
    size-added = let a = abs-sum sum (v x *ℤ v y) in let p = product-size in let s = size-left in omega (arith, a, p, s)

    pub small-product : fits (v x *ℤ v y)
    small-product = within fits between negated zero_fits (v x *ℤ v y) (length ys * (m * m)) (let p = product-size in let s = size-left in omega (arith, p, s)) all sign

    pub small-added : fits (sum +ℤ (v x *ℤ v y))
    small-added =
        within fits between negated zero_fits (sum +ℤ (v x *ℤ v y)) (length ys * (m * m)) (let s = size-added in omega (arith, s)) all
        (negative-sum fits sum (v x *ℤ v y) (own-negative fits sum h.sum_fits) sign)

    pub small-next : (more : ℤ) → more ≡ sum +ℤ (v x *ℤ v y) → SmallSum fits v xs ys m ps1 qs1 more
    small-next more is =
        let rest = total int_sums (products_of int_products v ps1 qs1) in
        record {
          same = (let s = h.same in let p = ap length e in let q = ap length f in omega (arith, s, p, q));
          left = λ all_left. h.left (subst (All IsSmall) (sym e) (All-cons IsSmall x ps1 small_x all_left));
          right = λ all_right. h.right (subst (All IsSmall) (sym f) (All-cons IsSmall y qs1 small_y all_right));
          size = subst (λ z. unsigned_abs z + length qs1 * (m * m) ≤ length ys * (m * m)) (sym is) size-added;
          sum_fits = subst fits (sym is) small-added;
          sums = ap (λ z. z +ℤ rest) is
              ∙ (int_sums.associates sum (v x *ℤ v y) rest
              ∙ (ap (λ l. sum +ℤ total int_sums l) (sym (products-next int_products v ps qs ps1 qs1 x y e f)) ∙ h.sums));
        }

  pub small-end : fits (pos (length ys * (m * m))) → (ps qs : List A) (sum : ℤ) → ps ≡ [] → SmallSum fits v xs ys m ps qs sum → IsSumInRange fits (products_of int_products v xs ys) sum
  small-end all ps qs sum none h =
      let ended = products-ended int_products v ps qs (inl none) in
      let many : length qs ≡ 0 = sym h.same ∙ ap length none in
      let no_more : qs ≡ [] = nil_from_length qs many in
      let fit = small-lists fits between zero_fits negated v xs ys (length ys) m m (h.left (subst (All IsSmall) (sym none) (All-nil IsSmall))) (h.right (subst (All IsSmall) (sym no_more) (All-nil IsSmall))) (omega arith) all in
      record {
        magnitudes = fit.0;
        selections = fit.1;
        sum = sym (int_sums.commutes sum (pos 0) ∙ int_sums.unit_op sum) ∙ (ap (λ l. sum +ℤ total int_sums l) (sym ended) ∙ h.sums);
      }

-- four times as many squares as of the half
pub squares-doubled : (count f n : ℕ) (s : ℤ) → count * (f * f) ≤ n → pos (4 * n) ≤ℤ s → pos (count * ((f + f) * (f + f))) ≤ℤ s
squares-doubled count f n s le more =
    let four : count * ((f + f) * (f + f)) ≡ 4 * (count * (f * f)) = grind arith in
    omega (arith, ints, le, more, four)
