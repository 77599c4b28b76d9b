-- A filter by a kernel that is a column times a row, and a blur by one.
use Rattle.std.specs.Prelude.{ℕ, ℤ, ◌*ℤ◌, pos, int_div, List, [], ◌∷◌, length, slice_index, FitsSigned}
use Rattle.std.specs.Int.{w64}
use Rattle.ndarray.specs.Convolution.{HasValidMagnitudesInRange, valid_convolution_by}
use Rattle.ndarray.specs.Everyday.{mapped}
use Rattle.ndarray.specs.Grid.{Grid, array_by, cell, one_axis}
use Rattle.ndarray.specs.Integers.{int_products, int_sums}
use Rattle.ndarray.specs.Products.{value_or}
use Rattle.ndarray.specs.Subviews.{ArePositive}
use Rattle.ndarray.specs.Views.{axis_inserted}

-- the weight of a vector at a place
abbrev pub weight : Grid ℤ → ℕ → ℤ
weight weights i = value_or (λ x. x) (pos 0) (cell weights (i ∷ []))

-- the kernel that has at row i and column j the column's weight i times the row's weight j
abbrev pub column_times_row : Grid ℤ → Grid ℤ → Grid ℤ
column_times_row column row = array_by (slice_index column.lengths 0 ∷ slice_index row.lengths 0 ∷ []) (λ is. weight column (slice_index is 0) *ℤ weight row (slice_index is 1))

-- an image filtered by a kernel: the valid convolution
abbrev pub filtered_image : Grid ℤ → Grid ℤ → Grid ℤ
filtered_image image kernel = valid_convolution_by int_sums int_products (λ x. x) image kernel

-- an image may be filtered by a kernel: this has rows and columns, and the absolute values of the products add up to an i64 at each position
pub record CanFilterImage (image kernel : Grid ℤ) : Type 0 where
  pub sides : ArePositive image.lengths kernel.lengths
  pub fits : HasValidMagnitudesInRange (λ x. x) (FitsSigned w64) image kernel

-- it may be filtered by the column, as a table of one column, and then by the row, as a table of one row
pub record CanFilterByParts (image column row : Grid ℤ) : Type 0 where
  pub first : CanFilterImage image (axis_inserted column 1)
  pub second : CanFilterImage (filtered_image image (axis_inserted column 1)) (axis_inserted row 0)

-- the weights of the blur, which add up to 16
abbrev pub weights : Grid ℤ
weights = one_axis (pos 1 ∷ pos 4 ∷ pos 6 ∷ pos 4 ∷ pos 1 ∷ [])

-- an image filtered by the square kernel of these weights times each other, whose cells add up to 256, and divided by that, rounded towards zero
abbrev pub smoothed : Grid ℤ → Grid ℤ
smoothed image = mapped (λ sum. int_div sum (pos 256)) (filtered_image image (column_times_row weights weights))
