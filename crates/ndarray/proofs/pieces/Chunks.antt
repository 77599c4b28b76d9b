-- The chunks of an axis: how many there are, and where each begins.
use Rattle.std.proofs.Common.{ℕ, ◌+◌, ◌*◌, ◌<◌, ◌≤◌, inl, inr, arith}
use Rattle.std.proofs.lemmas.Bool.{cases_lt}
use Rattle.std.proofs.lemmas.Grind.{div_ceil_times}
use Rattle.std.proofs.Math.Nat.{mul-le-mul_left}
use Rattle.std.specs.Int.{div_ceil}

-- a chunk begins within the axis
pub chunk-begins : (n s c : ℕ) → 1 ≤ s → c < div_ceil n s → c * s < n
chunk-begins n s c h lt =
    let d = div_ceil_times n s h in
    let m : s * (c + 1) ≤ s * div_ceil n s = mul-le-mul_left s (omega arith) in
    omega (arith, d.1)

-- there are at most as many chunks as places
pub div_ceil-le : (n s : ℕ) → 1 ≤ s → div_ceil n s ≤ n
div_ceil-le n s h =
    let d = div_ceil_times n s h in
    elim (cases_lt n (div_ceil n s)) [
      | inl more ↦ (
          let m : s * (n + 1) ≤ s * div_ceil n s = mul-le-mul_left s (omega arith) in
          let k : n * 1 ≤ n * s = mul-le-mul_left n h in
          absurd (omega (arith, d.1)))
      | inr le ↦ le
    ]
