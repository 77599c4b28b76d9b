-- Fixed-point filters of a signal.
use Rattle.std.specs.Prelude.{◌≡◌, ℕ, ℤ, ◌+◌, ◌-◌, ◌*ℤ◌, pos, [], ◌∷◌, Some, length}
use Rattle.std.specs.Int.{int_shr}
use Rattle.ndarray.specs.Grid.{Grid, IsGrid, cell}
use Rattle.ndarray.specs.Integers.{int_sums}
use Rattle.ndarray.specs.Matrices.{values_below}
use Rattle.ndarray.specs.Products.{value_or}
use Rattle.ndarray.specs.Sums.{total}

-- the sample of a signal at a place, and 0 outside of it
abbrev pub sample : Grid ℤ → ℕ → ℤ
sample signal p = value_or (λ x. x) (pos 0) (cell signal (p ∷ []))

-- m taps at place p: the sum over j below m of taps[j] * signal[p + m - 1 - j]
abbrev pub filtered_sample : Grid ℤ → Grid ℤ → ℕ → ℕ → ℤ
filtered_sample signal taps m p = total int_sums (values_below m (λ j. sample taps j *ℤ sample signal (p + (m - 1) - j)))

-- a sample for each place at which all taps lie within the signal, and each is that sum, divided by 2 to the power of the shift and rounded down
pub record IsFilteredSignal (signal taps : Grid ℤ) (shift : ℕ) (filtered : Grid ℤ) : Type 0 where
  pub lengths : filtered.lengths ≡ (length signal.cells + 1 - length taps.cells) ∷ []
  pub whole : IsGrid filtered
  pub samples : (p : ℕ) (z : ℤ) → cell filtered (p ∷ []) ≡ Some z → z ≡ int_shr (filtered_sample signal taps (length taps.cells) p) shift
