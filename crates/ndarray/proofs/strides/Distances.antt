-- Strides without their signs, and how far axes reach.
use Rattle.std.proofs.Common.{◌≡◌, ℕ, ◌+◌, ◌-◌, ◌*◌, ◌/◌, ◌%◌, ◌<◌, ◌≤◌, ◌^◌, ◌⊎◌, cond, inl, inr, ◌∙◌, ap, arith, w64}
use Rattle.std.specs.Prelude.{ℤ, pos, negsuc, unsigned_abs, FitsSigned, nat_lt}
use Rattle.std.specs.Int.{cast_unsigned}
use Rattle.std.proofs.Math.Nat.{mul-le-mul_right}
use Rattle.std.proofs.lemmas.Bool.{cases_lt}
use Rattle.std.proofs.lemmas.Bool.Decides.{nat_tests}
use Rattle.ndarray.specs.base.Nested.{distance, reach, reach_within}

-- ---- strides without their signs

-- the bits b go x far, up or down, modulo 2 ^ 64
abbrev pub GoesFar : ℕ → ℕ → Type 0
GoesFar b x = (q : ℕ) × ((b ≡ x + 2 ^ 64 * q) ⊎ (b + x ≡ 2 ^ 64 * q))

-- each stride goes as far as its size
pub distance-goes : (b : ℕ) → GoesFar b (distance b)
distance-goes b =
    let q : ℕ = b / 2 ^ 64 in
    elim (cases_lt (b % 2 ^ 64) (2 ^ 63)) [
      | inl up ↦ (q, inl (omega arith))
      | inr down ↦ (q + 1, inr (omega arith))
    ]

-- what goes x far has the size x
distance-is : (b x : ℕ) → x < 2 ^ 63 → GoesFar b x → distance (b % 2 ^ 64) ≡ x
distance-is b x fits (q, inl e) = omega arith
distance-is b x fits (q, inr e) = omega arith

-- a product goes as far as the product of both
goes-times : (b s m t : ℕ) → m * t < 2 ^ 63 → GoesFar b m → GoesFar s t → GoesFar (b * s) (m * t)
goes-times b s m t fits (q, inl e) (r, inl g) =
    let p : b * s ≡ (m + 2 ^ 64 * q) * (t + 2 ^ 64 * r) = ap (λ x. x * s) e ∙ ap (λ x. (m + 2 ^ 64 * q) * x) g in
    (m * r + q * t + 2 ^ 64 * (q * r), inl (omega arith))
goes-times b s m t fits (q, inl e) (r, inr g) =
    let p : b * s ≡ (m + 2 ^ 64 * q) * s = ap (λ x. x * s) e in
    let o : m * (s + t) ≡ m * (2 ^ 64 * r) = ap (λ x. m * x) g in
    (q * s + m * r, inr (omega arith))
goes-times b s m t fits (q, inr e) (r, inl g) =
    let p : b * s ≡ b * (t + 2 ^ 64 * r) = ap (λ x. b * x) g in
    let o : (b + m) * t ≡ 2 ^ 64 * q * t = ap (λ x. x * t) e in
    (b * r + q * t, inr (omega arith))
goes-times b s m t fits (q, inr e) (r, inr g) =
    let p : b * (s + t) ≡ b * (2 ^ 64 * r) = ap (λ x. b * x) g in
    let o : (b + m) * t ≡ 2 ^ 64 * q * t = ap (λ x. x * t) e in
    (b * r - q * t, inl (omega arith))

-- the size of a stride times a step, where that is not too far
pub distance-times : (b s : ℕ) → distance b * distance s < 2 ^ 63 → distance ((b * s) % 2 ^ 64) ≡ distance b * distance s
distance-times b s fits = distance-is (b * s) (distance b * distance s) fits (goes-times b s (distance b) (distance s) fits (distance-goes b) (distance-goes s))

-- a stride that goes up
pub distance-small : (b : ℕ) → b < 2 ^ 63 → distance b ≡ b
distance-small b fits = omega arith

-- the size of the bits of a signed number is its absolute value
pub distance-signed : (z : ℤ) → FitsSigned w64 z → distance (cast_unsigned w64 z) ≡ unsigned_abs z
distance-signed (pos n) word = let f = word.sfits in omega arith
distance-signed (negsuc n) word = let f = word.sfits in omega arith

-- ---- how far axes reach

-- an axis of length 1 at most
pub reach-short : (n b : ℕ) → n ≤ 1 → reach n b ≡ 0
reach-short n b h = ap (λ x. x * distance b) (let e : n - 1 ≡ 0 = omega arith in e) ∙ omega arith

-- a longer axis reaches one stride at least
pub reach-long : (n b : ℕ) → 1 < n → distance b ≤ reach n b
reach-long n b h = let m : 1 * distance b ≤ (n - 1) * distance b = mul-le-mul_right (distance b) (omega arith) in omega arith

cond-near : (m x r : ℕ) → x ≤ m → cond (nat_lt m x) 0 r ≡ r
cond-near m x r h = grind (arith, nat_tests)

cond-far : (m x r : ℕ) → m < x → cond (nat_lt m x) 0 r ≡ 0
cond-far m x r h = grind (arith, nat_tests)

-- an axis counts where its stride is of size m at most
pub within-near : (m n b : ℕ) → distance b ≤ m → reach_within m n b ≡ reach n b
within-near m n b h = cond-near m (distance b) (reach n b) h

-- and does not where it is larger
pub within-far : (m n b : ℕ) → m < distance b → reach_within m n b ≡ 0
within-far m n b h = cond-far m (distance b) (reach n b) h

-- it never counts more than its reach
pub within-le : (m n b : ℕ) → reach_within m n b ≤ reach n b
within-le m n b =
    elim (cases_lt m (distance b)) [
      | inl far ↦ (let e = within-far m n b far in omega (arith, e))
      | inr near ↦ (let e = within-near m n b near in omega (arith, e))
    ]

-- and nothing where its length is 1 at most
pub within-short : (m n b : ℕ) → n ≤ 1 → reach_within m n b ≡ 0
within-short m n b h = let e = reach-short n b h in let l = within-le m n b in omega (arith, e, l)
