-- Elements that lie at one place: one, again and again.
use Rattle.std.proofs.Common.{◌≡◌, ℕ, ◌+◌, ◌-◌, ◌%◌, ◌^◌, ◌<◌, suc, zero, ◌∷◌, Option, Some, ap, arith, refl}
use Rattle.std.specs.Prelude.{filter_map, replicate}
use Rattle.ndarray.specs.base.Strided.{places_from}

-- with steps of 0 each place is the first
pub same-element : {A : Type 0} (at : ℕ → Option A) (p n : ℕ) (x : A) → p < 2 ^ 64 → at p ≡ Some x → filter_map at (places_from p 0 n) ≡ replicate n x
same-element at p zero x fits e = refl
same-element at p (suc n) x fits e =
    let still : (p + 0) % 2 ^ 64 ≡ p = omega (arith, fits) in
    rw (still, e) (ap (λ l. x ∷ l) (same-element at p n x fits e))

pub replicate-some : {A : Type 0} (x : A) (n : ℕ) → 0 < n → replicate n x ≡ x ∷ replicate (n - 1) x
replicate-some x zero some = absurd (omega arith)
replicate-some x (suc n) some = ap (λ m. x ∷ replicate m x) (let e : n ≡ suc n - 1 = omega arith in e)
