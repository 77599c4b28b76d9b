-- Products of arrays of numbers, of any number of axes.
use Rattle.std.specs.Prelude.{◌≡◌, ◌≤◌, ℤ, length, FitsSigned}
use Rattle.std.specs.Int.{w64}
use Rattle.ndarray.specs.DotRanges.{HasLaneMagnitudesInRange}
use Rattle.ndarray.specs.Grid.{Grid, array_by}
use Rattle.ndarray.specs.Products.{ShapesMultiply, dot_entries, product_lengths}
use Rattle.ndarray.specs.WholeValues.{i64_values}

-- the product of two arrays
abbrev pub dot_of : Grid ℤ → Grid ℤ → Grid ℤ
dot_of a b = array_by (product_lengths a.lengths b.lengths) (dot_entries i64_values a b)

-- two arrays multiply, and at each index list of the product the absolute values of the products of the two lanes add up to an i64
pub record CanMultiply (a b : Grid ℤ) : Type 0 where
  pub shapes : ShapesMultiply a.lengths b.lengths
  pub fits : HasLaneMagnitudesInRange (λ x. x) (FitsSigned w64) a b

-- the first two multiply, and their product and the third one; the second has two axes or more, the third one two
pub record CanMultiplyInTurn (a b c : Grid ℤ) : Type 0 where
  pub middle : 2 ≤ length b.lengths
  pub right : length c.lengths ≡ 2
  pub first : CanMultiply a b
  pub second : CanMultiply (dot_of a b) c
