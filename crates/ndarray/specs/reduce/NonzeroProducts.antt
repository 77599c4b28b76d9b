-- The absolute values of whole numbers that are not zero, multiplied one after another.
use Rattle.std.specs.Prelude.{◌≡◌, ℕ, ℤ, ◌*◌, List, pos}
use Rattle.std.specs.List.{AllByRecursion}
use Rattle.ndarray.specs.Integers.{magnitude_product}

-- the product of the absolute values of whole before rest is n, and fits; and the numbers of whole fit where those of rest do
pub record MultipliedSoFar (fits : ℤ → Type 0) (whole rest : List ℤ) (product : ℤ) : Type 0 where
  pub number : ℕ
  pub is_number : product ≡ pos number
  pub in_range : fits product
  pub total_is : number * magnitude_product rest ≡ magnitude_product whole
  pub each : AllByRecursion fits rest → AllByRecursion fits whole
