-- The size of a box, and the limit on shapes, one axis at a time.
use Rattle.std.proofs.Common.{◌≡◌, ℕ, ◌+◌, ◌-◌, ◌*◌, ◌<◌, ◌≤◌, ◌⊎◌, inl, inr, ◌^◌, suc, zero, List, [], ◌∷◌, ◌++◌, length, replicate, reverse, refl, take, drop, get_or, sym, ◌∙◌, ◌/◌, ◌%◌, ap, arith, set, insert, swap}
use Rattle.std.proofs.Math.Seq.{take-suc, drop-append_seam}
use Rattle.std.proofs.Math.Nat.{mul-le-mul_left, mul-lt-mul_of_pos_right, mul-div_cancel, mul_comm, div-lt_iff_lt-mul, zero-mul, one-mul, mul-zero, suc-mul}
use Rattle.std.proofs.lemmas.Bool.{cases_eq, cases_lt}
use Rattle.std.proofs.lemmas.Nat.{div-add-mod', mul-le}
use Rattle.std.proofs.lemmas.List.{take_all, take-append-drop, length-set, length-drop, length-reverse, reverse-append}
use Rattle.std.proofs.lemmas.List.Edits.{swap_is}
use Rattle.ndarray.specs.Index.{size}
use Rattle.ndarray.specs.Limits.{nonzero_size}
use Rattle.ndarray.proofs.lists.Elements.{reverse-cons, get_or-set_own}

pub size-append : (ns ms : List ℕ) → size (ns ++ ms) ≡ size ns * size ms
size-append [] ms = omega arith
size-append (n ∷ ns) ms = ap (λ x. n * x) (size-append ns ms) ∙ omega arith

pub size-ones : (m : ℕ) → size (replicate m 1) ≡ 1
size-ones zero = omega arith
size-ones (suc m) = let e = size-ones m in omega arith

pub size-take_more : (ns : List ℕ) (k : ℕ) → k < length ns → size (take (k + 1) ns) ≡ size (take k ns) * get_or ns k 0
size-take_more ns k h =
    let e : k + 1 ≡ suc k = omega arith in
    ap (λ x. size (take x ns)) e
    ∙ (ap size (take-suc ns k 0 h)
    ∙ (size-append (take k ns) (get_or ns k 0 ∷ []) ∙ omega arith))

pub size-le : (ns : List ℕ) → size ns ≤ nonzero_size ns
size-le [] = omega arith
size-le (zero ∷ ns) = omega arith
size-le (suc n ∷ ns) = mul-le-mul_left (suc n) (size-le ns)

nonzero-pos : (ns : List ℕ) → 0 < nonzero_size ns
nonzero-pos [] = omega arith
nonzero-pos (zero ∷ ns) = nonzero-pos ns
nonzero-pos (suc n ∷ ns) = let p = nonzero-pos ns in let m = mul-le-mul_left n p in omega arith

nonzero-take : (ns : List ℕ) (k : ℕ) → nonzero_size (take k ns) ≤ nonzero_size ns
nonzero-take ns zero = nonzero-pos ns
nonzero-take [] (suc k) = omega arith
nonzero-take (zero ∷ ns) (suc k) = nonzero-take ns k
nonzero-take (suc n ∷ ns) (suc k) = mul-le-mul_left (suc n) (nonzero-take ns k)

pub size-take_fits : (ns : List ℕ) (k : ℕ) → nonzero_size ns < 2 ^ 63 → size (take k ns) < 2 ^ 64
size-take_fits ns k h = let a = size-le (take k ns) in let b = nonzero-take ns k in omega arith

pub size-take_all : (ns : List ℕ) (k : ℕ) → length ns ≤ k → size (take k ns) ≡ size ns
size-take_all ns k h = ap size (take_all k ns h)

pub ruleset sizes = (size-take_more, size-take_fits, size-take_all)

pub nonzero-append : (ns ms : List ℕ) → nonzero_size (ns ++ ms) ≡ nonzero_size ns * nonzero_size ms
nonzero-append [] ms = omega arith
nonzero-append (zero ∷ ns) ms = nonzero-append ns ms
nonzero-append (suc n ∷ ns) ms = ap (λ x. suc n * x) (nonzero-append ns ms) ∙ omega arith

nonzero-one : (n : ℕ) → 0 < n → nonzero_size (n ∷ []) ≡ n
nonzero-one zero h = absurd (omega arith)
nonzero-one (suc n) h = omega arith

nonzero-take_more : (ns : List ℕ) (k : ℕ) → k < length ns → nonzero_size (take (k + 1) ns) ≡ nonzero_size (take k ns) * nonzero_size (get_or ns k 0 ∷ [])
nonzero-take_more ns k h =
    let e : k + 1 ≡ suc k = omega arith in
    ap (λ x. nonzero_size (take x ns)) e ∙ (ap nonzero_size (take-suc ns k 0 h) ∙ nonzero-append (take k ns) (get_or ns k 0 ∷ []))

module _ (ns : List ℕ) (k all len : ℕ) (here : k < length ns) (so_far : all ≡ nonzero_size (take k ns)) (el : len ≡ get_or ns k 0) where
  pub limit_stop : 0 < all → 0 < len → 9223372036854775807 / all < len → nonzero_size ns < 2 ^ 63 → ⊥
  limit_stop pa pl q h =
      let m : 9223372036854775807 < len * all = (div-lt_iff_lt-mul pa).0 q in
      let e = nonzero-take_more ns k here in
      let o = nonzero-one (get_or ns k 0) (omega arith) in
      let e2 : nonzero_size (take (k + 1) ns) ≡ len * all = e ∙ (ap (λ x. nonzero_size (take k ns) * x) (o ∙ sym el) ∙ (ap (λ x. x * len) (sym so_far) ∙ omega arith)) in
      let b = nonzero-take ns (k + 1) in
      omega arith

  pub limit_more : 0 < all → 0 < len → len ≤ 9223372036854775807 / all → (0 < all * len) × (all * len < 2 ^ 63) × (all * len ≡ nonzero_size (take (k + 1) ns))
  limit_more pa pl q =
      let e = nonzero-take_more ns k here in
      let o = nonzero-one (get_or ns k 0) (omega arith) in
      let e2 : all * len ≡ nonzero_size (take (k + 1) ns) = sym (e ∙ (ap (λ x. nonzero_size (take k ns) * x) (o ∙ sym el) ∙ ap (λ x. x * len) (sym so_far))) in
      let m : all * 1 ≤ all * len = mul-le-mul_left all pl in
      let d : 9223372036854775807 / all * all + 9223372036854775807 % all ≡ 9223372036854775807 = div-add-mod' 9223372036854775807 all in
      let m2 : all * len ≤ all * (9223372036854775807 / all) = mul-le-mul_left all q in
      (omega arith, omega arith, e2)

  pub limit_same : len ≡ 0 → all ≡ nonzero_size (take (k + 1) ns)
  limit_same z =
      let e = nonzero-take_more ns k here in
      let o : nonzero_size (get_or ns k 0 ∷ []) ≡ 1 = ap (λ x. nonzero_size (x ∷ [])) (sym el ∙ z) in
      so_far ∙ sym (e ∙ (ap (λ x. nonzero_size (take k ns) * x) o ∙ omega arith))

nonzero-drop : (ns : List ℕ) (k : ℕ) → nonzero_size (drop k ns) ≤ nonzero_size ns
nonzero-drop ns k =
    let e = ap nonzero_size (take-append-drop k ns) in
    let a = nonzero-append (take k ns) (drop k ns) in
    let p = nonzero-pos (take k ns) in
    let m : nonzero_size (drop k ns) * 1 ≤ nonzero_size (drop k ns) * nonzero_size (take k ns) = mul-le-mul_left (nonzero_size (drop k ns)) p in
    omega arith

pub size-drop_fits : (ns : List ℕ) (k : ℕ) → nonzero_size ns < 2 ^ 63 → size (drop k ns) < 2 ^ 64
size-drop_fits ns k h = let a = size-le (drop k ns) in let b = nonzero-drop ns k in omega arith

-- ---- the axes from the last to the first

pub size-reverse : (ns : List ℕ) → size (reverse ns) ≡ size ns
size-reverse [] = refl
size-reverse (n ∷ ns) = ap size (reverse-cons n ns) ∙ (size-append (reverse ns) (n ∷ []) ∙ (ap (λ x. x * (n * 1)) (size-reverse ns) ∙ omega arith))

-- the last of the reversed lengths are the first ones
pub size-drop_reverse : (ns : List ℕ) (i : ℕ) → i ≤ length ns → size (drop (length ns - i) (reverse ns)) ≡ size (take i ns)
size-drop_reverse ns i le =
    let front : List ℕ = reverse (take i ns) in
    let back : List ℕ = reverse (drop i ns) in
    let e : reverse ns ≡ back ++ front = ap reverse (sym (take-append-drop i ns)) ∙ reverse-append (take i ns) (drop i ns) in
    let l : length back ≡ length ns - i = length-reverse (drop i ns) ∙ length-drop i ns in
    ap (λ xs. size (drop (length ns - i) xs)) e
    ∙ (ap (λ n. size (drop n (back ++ front))) (sym l)
    ∙ (ap size (drop-append_seam back front) ∙ size-reverse (take i ns)))

pub nonzero-reverse : (ns : List ℕ) → nonzero_size (reverse ns) ≡ nonzero_size ns
nonzero-reverse [] = refl
nonzero-reverse (n ∷ ns) =
    let h = nonzero-reverse ns in
    ap nonzero_size (reverse-cons n ns) ∙ (nonzero-append (reverse ns) (n ∷ []) ∙ (ap (λ x. x * nonzero_size (n ∷ [])) h ∙ (mul_comm (nonzero_size ns) (nonzero_size (n ∷ [])) ∙ sym (nonzero-append (n ∷ []) ns))))

-- one length of a shape within the limit is within it
pub nonzero-one_of : (ns : List ℕ) (k : ℕ) → k < length ns → nonzero_size (get_or ns k 0 ∷ []) ≤ nonzero_size ns
nonzero-one_of [] k h = absurd (omega arith)
nonzero-one_of (zero ∷ ns) zero h = nonzero-pos ns
nonzero-one_of (suc n ∷ ns) zero h = mul-le-mul_left (suc n) (nonzero-pos ns)
nonzero-one_of (zero ∷ ns) (suc k) h = nonzero-one_of ns k (omega arith)
nonzero-one_of (suc n ∷ ns) (suc k) h =
    let ih = nonzero-one_of ns k (omega arith) in
    let m : nonzero_size ns * 1 ≤ nonzero_size ns * suc n = mul-le-mul_left (nonzero_size ns) (omega arith) in
    omega arith

-- lengths that are each no larger, or at most 1, multiply to no more
pub nonzero-smaller : (ms ns : List ℕ) → length ms ≡ length ns → ((k : ℕ) → k < length ns → (get_or ms k 0 ≤ get_or ns k 0) ⊎ (get_or ms k 0 ≤ 1)) → nonzero_size ms ≤ nonzero_size ns
nonzero-smaller [] [] l h = omega arith
nonzero-smaller [] (n ∷ ns) l h = absurd (omega arith)
nonzero-smaller (m ∷ ms) [] l h = absurd (omega arith)
nonzero-smaller (zero ∷ ms) (zero ∷ ns) l h = nonzero-smaller ms ns (omega arith) (λ k lt. h (suc k) (omega arith))
nonzero-smaller (zero ∷ ms) (suc n ∷ ns) l h =
    let ih = nonzero-smaller ms ns (omega arith) (λ k lt. h (suc k) (omega arith)) in
    let m : nonzero_size ns * 1 ≤ nonzero_size ns * suc n = mul-le-mul_left (nonzero_size ns) (omega arith) in
    omega arith
nonzero-smaller (suc m ∷ ms) (zero ∷ ns) l h =
    let ih = nonzero-smaller ms ns (omega arith) (λ k lt. h (suc k) (omega arith)) in
    let z : m ≡ 0 = elim (h 0 (omega arith)) [ inl a ↦ absurd (omega (arith, a)) | inr a ↦ omega (arith, a) ] in
    let e : m * nonzero_size ms ≡ 0 = ap (λ x. x * nonzero_size ms) z ∙ omega arith in
    omega arith
nonzero-smaller (suc m ∷ ms) (suc n ∷ ns) l h =
    let ih = nonzero-smaller ms ns (omega arith) (λ k lt. h (suc k) (omega arith)) in
    let le : m ≤ n = elim (h 0 (omega arith)) [ inl a ↦ omega (arith, a) | inr a ↦ omega (arith, a) ] in
    let a : suc m * nonzero_size ms ≤ suc m * nonzero_size ns = mul-le-mul_left (suc m) ih in
    let b : nonzero_size ns * suc m ≤ nonzero_size ns * suc n = mul-le-mul_left (nonzero_size ns) (omega arith) in
    omega arith

-- so it fits a signed word
pub length-fits : (ns : List ℕ) (k : ℕ) → k < length ns → nonzero_size ns < 2 ^ 63 → get_or ns k 0 < 2 ^ 63
length-fits ns k h limit = let a = size-le (get_or ns k 0 ∷ []) in let b = nonzero-one_of ns k h in omega arith

-- ---- one length put in place of another

nonzero-set : (ns : List ℕ) (k n : ℕ) → k < length ns → nonzero_size (set ns k n) * nonzero_size (get_or ns k 0 ∷ []) ≡ nonzero_size ns * nonzero_size (n ∷ [])
nonzero-set [] k n h = absurd (omega arith)
nonzero-set (m ∷ ns) zero n h =
    let a = nonzero-append (n ∷ []) ns in
    let b = nonzero-append (m ∷ []) ns in
    rw (a, b) (omega arith)
nonzero-set (zero ∷ ns) (suc k) n h = nonzero-set ns k n (omega arith)
nonzero-set (suc m ∷ ns) (suc k) n h =
    let ih = nonzero-set ns k n (omega arith) in
    let e = ap (λ x. suc m * x) ih in
    omega arith

nonzero-one_le : (n m : ℕ) → n ≤ m → nonzero_size (n ∷ []) ≤ nonzero_size (m ∷ [])
nonzero-one_le zero m h = nonzero-pos (m ∷ [])
nonzero-one_le (suc n) zero h = absurd (omega arith)
nonzero-one_le (suc n) (suc m) h = omega arith

pub nonzero-set_le : (ns : List ℕ) (k n : ℕ) → k < length ns → n ≤ get_or ns k 0 → nonzero_size (set ns k n) ≤ nonzero_size ns
nonzero-set_le ns k n h le =
    let e = nonzero-set ns k n h in
    let w = nonzero-one_le n (get_or ns k 0) le in
    let m : nonzero_size ns * nonzero_size (n ∷ []) ≤ nonzero_size ns * nonzero_size (get_or ns k 0 ∷ []) = mul-le-mul_left (nonzero_size ns) w in
    elim (cases_lt (nonzero_size ns) (nonzero_size (set ns k n))) [
      | inl more ↦ absurd (let l = mul-lt-mul_of_pos_right more (nonzero-pos (get_or ns k 0 ∷ [])) in omega arith)
      | inr not_more ↦ not_more
    ]

pub nonzero-swap : (ns : List ℕ) (i j : ℕ) → i < length ns → j < length ns → nonzero_size (swap ns i j) ≡ nonzero_size ns
nonzero-swap ns i j hi hj =
    let x : ℕ = get_or ns i 0 in
    let y : ℕ = get_or ns j 0 in
    let once : List ℕ = set ns i y in
    let a = nonzero-set ns i y hi in
    let b = nonzero-set once j x (omega (arith, length-set {A = ℕ})) in
    let there : get_or once j 0 ≡ y = get_or-set_own ns i j hi in
    let c : nonzero_size (set once j x) * nonzero_size (y ∷ []) ≡ nonzero_size ns * nonzero_size (y ∷ []) =
    ap (λ n. nonzero_size (set once j x) * nonzero_size (n ∷ [])) (sym there) ∙ (b ∙ a) in
    let pos = nonzero-pos (y ∷ []) in
    ap nonzero_size (sym (swap_is ns i j 0 hi hj)) ∙ (sym (mul-div_cancel (nonzero_size (set once j x)) pos) ∙ (ap (λ n. n / nonzero_size (y ∷ [])) c ∙ mul-div_cancel (nonzero_size ns) pos))

pub nonzero-insert_one : (ns : List ℕ) (k : ℕ) → nonzero_size (insert ns k 1) ≡ nonzero_size ns
nonzero-insert_one ns zero = omega arith
nonzero-insert_one [] (suc k) = omega arith
nonzero-insert_one (zero ∷ ns) (suc k) = nonzero-insert_one ns k
nonzero-insert_one (suc n ∷ ns) (suc k) = ap (λ x. suc n * x) (nonzero-insert_one ns k)

-- one length that fits a signed word is a shape within the limit
pub limit-one : (n : ℕ) → n < 2 ^ 63 → nonzero_size (n ∷ []) < 2 ^ 63
limit-one zero h = omega arith
limit-one (suc n) h = omega arith

product_one : (m t : ℕ) → m * t ≡ 1 → (m ≡ 1) × (t ≡ 1)
product_one zero t e = absurd (omega (arith, zero-mul t, e))
product_one (suc zero) t e = (refl, sym (one-mul t) ∙ e)
product_one (suc (suc m)) zero e = absurd (omega (arith, mul-zero (suc (suc m)), e))
product_one (suc (suc m)) (suc t) e = absurd (omega (arith, suc-mul (suc m) (suc t), suc-mul m (suc t), e))

-- in a box of one index list each axis has length 1
pub size-one_of : (ns : List ℕ) (k : ℕ) → k < length ns → size ns ≡ 1 → get_or ns k 0 ≡ 1
size-one_of [] k lt e = absurd (omega arith)
size-one_of (n ∷ ns) zero lt e = (product_one n (size ns) e).0
size-one_of (n ∷ ns) (suc k) lt e = size-one_of ns k (omega arith) (product_one n (size ns) e).1

-- what an axis adds to the size
pub size-one_index : (ns : List ℕ) (k : ℕ) → k < length ns → size ns ≡ get_or ns k 0 * size (set ns k 1)
size-one_index [] k below = absurd (omega arith)
size-one_index (n ∷ ns) zero below = omega arith
size-one_index (n ∷ ns) (suc k) below = ap (λ x. n * x) (size-one_index ns k (omega arith)) ∙ omega arith

-- a box of no index lists has none where an axis is shorter
pub size-set_none : (ns : List ℕ) (k v : ℕ) → v ≤ get_or ns k 0 → size ns ≡ 0 → size (set ns k v) ≡ 0
size-set_none [] k v le none = absurd (omega arith)
size-set_none (n ∷ ns) zero v le none = let m : v * size ns ≤ n * size ns = mul-le v (size ns) n (size ns) le (omega arith) in omega (arith, m, none)
size-set_none (n ∷ ns) (suc k) v le none = elim (cases_eq n 0) [
  | inl e ↦ ap (λ m. m * size (set ns k v)) e ∙ zero-mul (size (set ns k v))
  | inr some ↦
      (let m : 1 * size ns ≤ n * size ns = mul-le 1 (size ns) n (size ns) (omega arith) (omega arith) in
      ap (λ m. n * m) (size-set_none ns k v le (omega (arith, m, none))) ∙ omega arith)
]
