-- The last index list of a box in row order.
use Rattle.std.proofs.Common.{◌≡◌, ℕ, zero, suc, ◌+◌, ◌-◌, ◌*◌, ◌<◌, List, [], ◌∷◌, length, get_or, set, refl, ap, arith}
use Rattle.std.proofs.Math.Nat.{mul-zero}
use Rattle.ndarray.specs.Index.{InBox, size}
use Rattle.ndarray.specs.base.Ranks.{rank}
use Rattle.ndarray.proofs.boxes.Orders.{rank-lt}

-- the numbers, the first k of them less one
abbrev pub lowered : ℕ → List ℕ → List ℕ
lowered zero ns = ns
lowered (suc k) [] = []
lowered (suc k) (n ∷ ns) = (n - 1) ∷ lowered k ns

pub lowered-length : (k : ℕ) (ns : List ℕ) → length (lowered k ns) ≡ length ns
lowered-length zero ns = refl
lowered-length (suc k) [] = refl
lowered-length (suc k) (n ∷ ns) = ap suc (lowered-length k ns)

pub lowered-next : (k : ℕ) (ns : List ℕ) → get_or (lowered k ns) k 0 ≡ get_or ns k 0
lowered-next zero ns = refl
lowered-next (suc k) [] = refl
lowered-next (suc k) (n ∷ ns) = lowered-next k ns

pub lowered-more : (k : ℕ) (ns : List ℕ) → k < length ns → set (lowered k ns) k (get_or ns k 0 - 1) ≡ lowered (suc k) ns
lowered-more zero [] lt = absurd (omega arith)
lowered-more zero (n ∷ ns) lt = refl
lowered-more (suc k) [] lt = absurd (omega arith)
lowered-more (suc k) (n ∷ ns) lt = ap (λ l. (n - 1) ∷ l) (lowered-more k ns (omega arith))

pos-right : (m n : ℕ) → 0 < m * n → 0 < n
pos-right m zero lt = absurd (let e = mul-zero m in omega arith)
pos-right m (suc n) lt = omega arith

-- where the box has index lists, that is one, and the last
pub last-inside : (ns : List ℕ) → 0 < size ns → InBox ns (lowered (length ns) ns) × (rank ns (lowered (length ns) ns) + 1 ≡ size ns)
unfolding rank
last-inside [] some = (tt, refl)
last-inside (zero ∷ ns) some = absurd (omega arith)
last-inside (suc n ∷ ns) some =
    let rest = last-inside ns (pos-right (suc n) (size ns) some) in
    ((omega arith, rest.0), grind (arith, rest.1))

-- where it has none, no index list is in it
pub none-inside : (ns is : List ℕ) → size ns ≡ 0 → InBox ns is → ⊥
none-inside ns is none inside = let lt = rank-lt ns is inside in absurd (omega arith)
