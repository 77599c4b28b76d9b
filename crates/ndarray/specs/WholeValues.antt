-- Elements whose values are whole numbers, and the products of arrays of them.
use Rattle.std.specs.Prelude.{◌≡◌, ◌↔◌, ℕ, ℤ, pos, ◌+ℤ◌, ◌*ℤ◌, ◌<◌, FitsSigned}
use Rattle.std.specs.Int.{w64}
use Rattle.ndarray.specs.Integers.{int_products, int_sums}
use Rattle.ndarray.specs.Matrices.{Matrix, inner_products}
use Rattle.ndarray.specs.Products.{magnitude_sum}
use Rattle.ndarray.specs.declared.elements.Valued.{Ghosts as ValuedGhosts}

-- Each value is one of a whole number, and that of an element is its own: sums and products of values are those of their numbers, and a value is in range exactly where its number fits.
pub record HasWholeValues {A : Type 0} (e : ValuedGhosts A) (number : A → ℤ) (fits : ℤ → Type 0) : Type 0 where
  pub whole : e.Carrier → ℤ
  pub element : (x : A) → whole (e.meaning x) ≡ number x
  pub zero : whole e.addition.unit ≡ pos 0
  pub one : whole e.multiplication.unit ≡ pos 1
  pub sum : (x y : e.Carrier) → whole (e.addition.op x y) ≡ whole x +ℤ whole y
  pub product : (x y : e.Carrier) → whole (e.multiplication.op x y) ≡ whole x *ℤ whole y
  pub in_range : (x : e.Carrier) → e.InRange x ↔ fits (whole x)

-- whole numbers as the values of elements
abbrev pub whole_numbers : {A : Type 0} → (A → ℤ) → (ℤ → Type 0) → ValuedGhosts A
whole_numbers number fits = record { Carrier = ℤ; addition = int_sums; multiplication = int_products; meaning = number; InRange = fits }

-- whole numbers as the values of `i64`
abbrev pub i64_values : ValuedGhosts ℤ
i64_values = whole_numbers (λ x. x) (FitsSigned w64)

-- the absolute values of the products of each inner sum add up to a number that fits
abbrev pub HasMagnitudesInRange : (ℤ → Type 0) → Matrix ℤ → Matrix ℤ → Type 0
HasMagnitudesInRange fits a b = (i j : ℕ) → i < a.rows → j < b.columns → fits (pos (magnitude_sum (inner_products int_products a b i j)))
