-- What the laws of dimensions cite: which of them have a fixed number of axes.
use Rattle.std.proofs.Common.{◌≡◌, ℕ, ◌+◌, ◌-◌, ◌<◌, ◌≤◌, ◌∙◌, refl, ap, arith}
use Rattle.std.specs.Prelude.{max}
use Rattle.ndarray.specs.FixedAxes.{IsFixed}

-- with one axis less
pub fixed-smaller : (axes n : ℕ) → IsFixed (λ k. k ≡ axes) n → IsFixed (λ k. k ≡ axes - 1) (n - 1)
fixed-smaller axes n fixed k e = e ∙ ap (λ x. x - 1) (fixed axes refl)

-- with one axis more
pub fixed-larger : (axes n : ℕ) → n < 6 → IsFixed (λ k. k ≡ axes) n → IsFixed (λ k. k ≡ axes + 1) (n + 1)
fixed-larger axes n _ fixed k e = e ∙ ap (λ x. x + 1) (fixed axes refl)

-- six axes are not fewer than six
pub fixed-larger-none : (P : ℕ → Type 0) (n : ℕ) → n < 6 → IsFixed (λ k. k ≡ 6) n → IsFixed P (n + 1)
fixed-larger-none P n below fixed = absurd (let e = fixed 6 refl in omega arith)

-- the larger of two numbers
pub fixed-larger_of_two : (one other n m : ℕ) → IsFixed (λ k. k ≡ one) n → IsFixed (λ k. k ≡ other) m → IsFixed (λ k. k ≡ max one other) (max n m)
fixed-larger_of_two one other n m first second k e = e ∙ (ap (λ x. max x other) (first one refl) ∙ ap (λ x. max n x) (second other refl))

-- a number up to 32 is not a fixed one
pub dynamic-not-fixed : (n : ℕ) → IsFixed (λ k. k ≤ 32) n → ⊥
dynamic-not-fixed n fixed = let zero = fixed 0 (omega arith) in let one = fixed 1 (omega arith) in omega arith
