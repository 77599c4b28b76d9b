-- Convolutions of two tables.
use Rattle.std.specs.Prelude.{◌≡◌, ℤ, FitsSigned, length}
use Rattle.std.specs.Int.{w64}
use Rattle.ndarray.specs.Convolution.{CanPad, HasFullMagnitudesInRange, HasValidMagnitudesInRange, full_convolution, valid_convolution_by}
use Rattle.ndarray.specs.Grid.{Grid, one_axis}
use Rattle.ndarray.specs.Integers.{int_products, int_sums}
use Rattle.ndarray.specs.Subviews.{ArePositive}

-- at each position of the kernel within the table, the absolute values of the products add up to an `i64`
abbrev pub CanConvolve : Grid ℤ → Grid ℤ → Type 0
CanConvolve table kernel = HasValidMagnitudesInRange (λ x. x) (FitsSigned w64) table kernel

-- as many axes and kernel lengths of at least 1, such absolute values, and the third array is the valid convolution: at each position the sum of the products
pub record IsValidConvolution (table kernel sums : Grid ℤ) : Type 0 where
  pub shape : ArePositive table.lengths kernel.lengths
  pub fits : CanConvolve table kernel
  pub cells : sums ≡ valid_convolution_by int_sums int_products (λ x. x) table kernel

-- both have one axis, and the first between zeros is not too long
abbrev pub AreVectors : Grid ℤ → Grid ℤ → Type 0
AreVectors x y = (length x.lengths ≡ 1) × (length y.lengths ≡ 1) × CanPad (length x.cells) (length y.cells)

-- at each place of the full convolution the absolute values of the products add up to an `i64`
abbrev pub CanConvolveInFull : Grid ℤ → Grid ℤ → Type 0
CanConvolveInFull x y = HasFullMagnitudesInRange (λ z. z) (FitsSigned w64) x.cells y.cells

-- two vectors, such absolute values, and the third array is the full convolution: at s the sum of the products of x(i) and y(j) over all i + j = s
pub record IsFullConvolution (x y sums : Grid ℤ) : Type 0 where
  pub shape : AreVectors x y
  pub fits : CanConvolveInFull x y
  pub cells : sums ≡ one_axis (full_convolution int_sums int_products x.cells y.cells)
