-- The lanes of an array that has no cells have none.
use Rattle.std.proofs.Common.{◌≡◌, ℕ, ◌<◌, ℤ, pos, ◌+ℤ◌, List, [], ◌∷◌, true, false, length, refl, ap, arith}
use Rattle.ndarray.specs.Elementwise.{CanMap}
use Rattle.ndarray.specs.Grid.{Grid, IsGrid}
use Rattle.ndarray.specs.Integers.{int_sums}
use Rattle.ndarray.specs.Subviews.{lanes_of}
use Rattle.ndarray.specs.Sums.{IsSummableBy, select, total_by}
use Rattle.ndarray.proofs.callers.Lanes.{at_front, lanes-summable, select-none}

module _ {A : Type 0} where
  -- how many elements a list has, as a sum of ones
  abbrev count : List A → ℤ
  count xs = total_by int_sums (λ _. pos 1) xs

  counts-none : (xs : List A) → length xs ≡ 0 → IsSummableBy int_sums (λ z. z ≡ pos 0) (λ _. pos 1) xs
  counts-none [] e keep = refl
  counts-none (x ∷ xs) e keep = absurd (omega arith)

  none-counted : (xs : List A) → count (select (at_front true (λ _. false)) xs) ≡ pos 0 → xs ≡ []
  none-counted [] h = refl
  none-counted (x ∷ xs) h = let one : count (x ∷ select (λ _. false) xs) ≡ pos 1 = ap (λ ys. pos 1 +ℤ count ys) (select-none xs) in absurd (cc)

  -- what holds of each array without cells holds of each lane
  pub empty-lanes : (P : Grid A → Type 0) → ((lane : Grid A) → lane.cells ≡ [] → P lane) → (g : Grid A) (k : ℕ) → IsGrid g → length g.cells ≡ 0 → k < length g.lengths → CanMap P (lanes_of g k)
  empty-lanes P each g k whole none lt js lane at =
      each lane (none-counted lane.cells (lanes-summable g whole k lt int_sums (λ z. z ≡ pos 0) (λ _. pos 1) (counts-none g.cells none) js lane at (at_front true (λ _. false))))
