-- Where a counter stands that goes along two lists.
use Rattle.std.proofs.Common.{◌≡◌, ◌∙◌, ◌≤◌, ℕ, arith, sym}

-- what is read at one place is what stands at the other
pub carried : {x y z : ℕ} → x ≡ y → z ≡ y → x ≡ z
carried e f = e ∙ sym f

pub at-end : (k n : ℕ) → k ≤ n → n ≤ k → k ≡ n
at-end k n most least = omega arith
