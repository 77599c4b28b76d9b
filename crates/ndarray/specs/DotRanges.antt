-- The ranges of the products of arrays of whole numbers, of any number of axes.
use Rattle.std.specs.Prelude.{◌≡◌, ℕ, ℤ, List, pos}
use Rattle.ndarray.specs.Grid.{Grid}
use Rattle.ndarray.specs.Index.{InBox}
use Rattle.ndarray.specs.Integers.{int_products, int_sums}
use Rattle.ndarray.specs.Products.{lane_products, magnitude_sum, product_lengths, products_of}
use Rattle.ndarray.specs.Sums.{IsSummable}
use Rattle.ndarray.specs.WholeValues.{whole_numbers}

module _ {A : Type 0} (number : A → ℤ) (fits : ℤ → Type 0) where
  -- two vectors are equally long, and the absolute values of the products of their cells add up to a number that fits
  abbrev pub HasInnerMagnitudeInRange : Grid A → Grid A → Type 0
  HasInnerMagnitudeInRange x y = (x.lengths ≡ y.lengths) × fits (pos (magnitude_sum (products_of int_products number x.cells y.cells)))

  -- of the products of the cells of two vectors every selection has its sum in range
  abbrev pub HasInnerSumInRange : Grid A → Grid A → Type 0
  HasInnerSumInRange x y = IsSummable int_sums fits (products_of int_products number x.cells y.cells)

  -- at each index list of the product of two arrays, the absolute values of the products of the two lanes add up to a number that fits
  abbrev pub HasLaneMagnitudesInRange : Grid A → Grid A → Type 0
  HasLaneMagnitudesInRange a b = (is : List ℕ) → InBox (product_lengths a.lengths b.lengths) is → fits (pos (magnitude_sum (lane_products (whole_numbers number fits) a b is)))
