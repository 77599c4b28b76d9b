-- Whole numbers so small that sums of their products fit.
use Rattle.std.specs.Prelude.{◌≡◌, ◌⊎◌, ℕ, ℤ, ◌*◌, ◌≤◌, ◌≤ℤ◌, ◌*ℤ◌, All, Contains, List, pos, unsigned_abs}
use Rattle.ndarray.specs.Integers.{int_sums}
use Rattle.ndarray.specs.Products.{magnitude_sum}
use Rattle.ndarray.specs.Sums.{IsSummable, total}

-- each number fits, and has an absolute value of at most m
abbrev pub AreUpTo : (ℤ → Type 0) → ℕ → List ℤ → Type 0
AreUpTo fits m zs = All (λ z. fits z × (unsigned_abs z ≤ m)) zs

-- each number fits, and is from the least to the greatest
abbrev pub AreBetween : (ℤ → Type 0) → ℤ → ℤ → List ℤ → Type 0
AreBetween fits least greatest zs = All (λ z. fits z × (least ≤ℤ z) × (z ≤ℤ greatest)) zs

-- zero, or a number of the list
abbrev pub IsZeroOrIn : List ℤ → ℤ → Type 0
IsZeroOrIn zs z = (z ≡ pos 0) ⊎ Contains zs z

-- least and greatest are bounds of zero and of the numbers of whole that are not in rest, and these fit: where those of rest lie between wider bounds and fit, so do all of whole. Each of the two is zero or one of these numbers.
pub record ExtremesSoFar (fits : ℤ → Type 0) (whole rest : List ℤ) (least greatest : ℤ) : Type 0 where
  pub up_to_zero : least ≤ℤ pos 0
  pub from_zero : pos 0 ≤ℤ greatest
  pub others : (low high : ℤ) → low ≤ℤ least → greatest ≤ℤ high → AreBetween fits low high rest → AreBetween fits low high whole
  pub within : (z : ℤ) → Contains rest z → Contains whole z
  pub least_found : IsZeroOrIn whole least
  pub greatest_found : IsZeroOrIn whole greatest

-- as many products as counted, of the largest absolute value of the one list and that of the other, add up to a number that fits
pub record HaveSmallProducts (fits : ℤ → Type 0) (count : ℕ) (xs ys : List ℤ) : Type 0 where
  pub left : ℕ
  pub left_up_to : AreUpTo fits left xs
  pub right : ℕ
  pub right_up_to : AreUpTo fits right ys
  pub in_range : fits (pos (count * (left * right)))

-- each product of a number of the one list and a number of the other fits
abbrev pub HaveProductsInRange : (ℤ → Type 0) → List ℤ → List ℤ → Type 0
HaveProductsInRange fits xs ys = (x y : ℤ) → Contains xs x → Contains ys y → fits (x *ℤ y)

-- s is the sum of the numbers; their absolute values add up to one that fits, and so does every selection of them
pub record IsSumInRange (fits : ℤ → Type 0) (zs : List ℤ) (s : ℤ) : Type 0 where
  pub magnitudes : fits (pos (magnitude_sum zs))
  pub selections : IsSummable int_sums fits zs
  pub sum : s ≡ total int_sums zs
