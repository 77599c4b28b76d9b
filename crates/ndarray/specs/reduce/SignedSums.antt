-- Positive and negative whole numbers that are added apart, one after another.
use Rattle.std.specs.Prelude.{◌≡◌, ℕ, ℤ, List, negsuc, pos, ◌+ℤ◌, ◌≤ℤ◌}
use Rattle.std.specs.List.{AllByRecursion}
use Rattle.ndarray.specs.Integers.{negative_sum, positive_sum}

-- up and down are the sums of the positive and of the negative numbers of whole before rest, and both fit
pub record AddedApart (fits : ℤ → Type 0) (whole rest : List ℤ) (up down : ℤ) : Type 0 where
  pub up_sum : up +ℤ positive_sum rest ≡ positive_sum whole
  pub up_positive : pos 0 ≤ℤ up
  pub up_fits : fits up
  pub down_sum : down +ℤ negative_sum rest ≡ negative_sum whole
  pub down_negative : down ≤ℤ pos 0
  pub down_fits : fits down

-- where z is negative, some negative number fits
unfoldable pub NegativeFits : (ℤ → Type 0) → ℤ → Type 0
NegativeFits fits z = (n : ℕ) → z ≡ negsuc n → (m : ℕ) × fits (negsuc m)

-- The same of products of numbers that fit. A product may not fit; but a negative one has a negative factor, which does: so where a negative
-- number fits for the sake of rest, one does for the sake of whole.
pub record ProductsApart (fits : ℤ → Type 0) (whole rest : List ℤ) (up down : ℤ) : Type 0 where
  pub apart : AddedApart fits whole rest up down
  pub signs : AllByRecursion (NegativeFits fits) rest → AllByRecursion (NegativeFits fits) whole
