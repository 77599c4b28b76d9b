-- Lists that have each number below n once.
use Rattle.std.proofs.Common.{◌≡◌, ◌∙◌, ◌+◌, ◌<◌, ◌≢◌, ℕ, false, List, [], ◌∷◌, arith, eq-eqb, get_or, inl, inr, length, refl, suc, sym, zero}
use Rattle.std.specs.Prelude.{All, AllPairs, Contains, IsPermutation, nat_eq}
use Rattle.std.specs.List.{AllByRecursion, IsDistinct, position_or_len, range_with_len}
use Rattle.std.proofs.lemmas.Bool.{eqb-false, ne_eqb}
use Rattle.std.proofs.lemmas.Bool.Decides.{eqb_tells}
use Rattle.std.proofs.lemmas.List.FromFn.{get_or-range_with_len, length-range_with_len}
use Rattle.std.proofs.lemmas.List.Sorted.{All-permutation, Contains-permutation, length_permutation}
use Rattle.std.proofs.lemmas.List.Sums.{position_or_len_is}
use Rattle.std.proofs.lemmas.Map.Keys.{IsDistinct-IsPermutation}
use Rattle.ndarray.proofs.lists.Permutations.{rearranged-as_many}

-- ---- the numbers below n

range-rising : (n : ℕ) → AllPairs (λ i j. i < j) (range_with_len 0 n)
range-rising n i j d lt below =
    let l = length-range_with_len 0 n in
    let a = get_or-range_with_len 0 n i d (omega arith) in
    let b = get_or-range_with_len 0 n j d (omega arith) in
    omega (arith, a, b)

range-below : (n : ℕ) → All (λ k. k < n) (range_with_len 0 n)
range-below n i d lt =
    let l = length-range_with_len 0 n in
    let a = get_or-range_with_len 0 n i d (omega arith) in
    omega (arith, a)

range-contains : (n k : ℕ) → k < n → Contains (range_with_len 0 n) k
range-contains n k lt = (k, omega (arith, length-range_with_len 0 n), omega (arith, get_or-range_with_len 0 n k k lt))

-- a list of n numbers that has each number below n has each once
pub each-once : (n : ℕ) (ks : List ℕ) → length ks ≡ n → ((k : ℕ) → k < n → Contains ks k) → IsPermutation (range_with_len 0 n) ks
each-once n ks l has =
    rearranged-as_many (λ i j. i < j) (λ i lt. omega (arith, lt)) (range_with_len 0 n) ks (range-rising n) (omega (arith, length-range_with_len 0 n))
    (λ k (i, lt, e). has k (omega (arith, e, lt, length-range_with_len 0 n, get_or-range_with_len 0 n i k (omega (arith, lt, length-range_with_len 0 n)))))

-- ---- what such a list has

eqb_sym : (a b : ℕ) → nat_eq a b ≡ nat_eq b a
eqb_sym a b = elim (eqb_tells a b) [
  | inl same ↦ same.0 ∙ sym (eq-eqb b a (sym same.1))
  | inr other ↦ other.0 ∙ sym (ne_eqb b a (λ e. other.1 (sym e)))
]

later-apart : (a x : ℕ) (n : ℕ) → x < a → AllByRecursion (λ y. nat_eq x y ≡ false) (range_with_len a n)
later-apart a x zero lt = tt
later-apart a x (suc n) lt = (ne_eqb x a (λ e. omega (arith, e, lt)), later-apart (a + 1) x n (omega (arith, lt)))

range-distinct : (a n : ℕ) → IsDistinct nat_eq (range_with_len a n)
unfolding IsDistinct
range-distinct a zero = tt
range-distinct a (suc n) = (later-apart (a + 1) a n (omega arith), range-distinct (a + 1) n)

all-at : (x : ℕ) (xs : List ℕ) (k d : ℕ) → AllByRecursion (λ y. nat_eq x y ≡ false) xs → k < length xs → nat_eq x (get_or xs k d) ≡ false
all-at x [] k d h lt = absurd (omega arith)
all-at x (y ∷ ys) zero d h lt = h.0
all-at x (y ∷ ys) (suc k) d h lt = all-at x ys k d h.1 (omega arith)

distinct-at : (xs : List ℕ) (i j d : ℕ) → IsDistinct nat_eq xs → i < j → j < length xs → get_or xs i d ≢ get_or xs j d
unfolding IsDistinct
distinct-at [] i j d h lt below e = omega arith
distinct-at (x ∷ xs) zero zero d h lt below e = omega arith
distinct-at (x ∷ xs) zero (suc j) d h lt below e = eqb-false x (get_or xs j d) (all-at x xs j d h.0 (omega arith)) e
distinct-at (x ∷ xs) (suc i) zero d h lt below e = omega arith
distinct-at (x ∷ xs) (suc i) (suc j) d h lt below e = distinct-at xs i j d h.1 (omega arith) (omega arith) e

module _ (n : ℕ) (ks : List ℕ) (order : IsPermutation (range_with_len 0 n) ks) where
  pub order-length : length ks ≡ n
  order-length = length_permutation (range_with_len 0 n) ks order ∙ length-range_with_len 0 n

  pub order-all : All (λ k. k < n) ks
  order-all = All-permutation (λ k. k < n) (range_with_len 0 n) ks order (range-below n)

  pub order-below : (i : ℕ) → i < n → get_or ks i 0 < n
  order-below i lt = order-all i 0 (omega (arith, lt, order-length))

  pub order-contains : (k : ℕ) → k < n → Contains ks k
  order-contains k lt = Contains-permutation (range_with_len 0 n) ks k order (range-contains n k lt)

  -- each number has its own place
  pub order-place : (i : ℕ) → i < n → position_or_len (nat_eq (get_or ks i 0)) ks ≡ i
  order-place i lt =
      let apart = IsDistinct-IsPermutation nat_eq eqb_sym (range_with_len 0 n) ks order (range-distinct 0 n) in
      position_or_len_is (nat_eq (get_or ks i 0)) ks i 0 (omega (arith, lt, order-length))
      (λ k below. ne_eqb (get_or ks i 0) (get_or ks k 0) (λ e. distinct-at ks k i 0 apart below (omega (arith, lt, order-length)) (sym e)))
      (λ _. eq-eqb (get_or ks i 0) (get_or ks i 0) refl)
