-- What the functions of src/range_tests compute.
use Rattle.std.specs.Prelude.{◌≡◌, ℕ, zero, suc, ℤ, pos, ◌*ℤ◌, ◌≤◌, List, [], ◌∷◌, Some, slice_index, FitsSigned}
use Rattle.std.specs.Int.{int_shr, w64}
use Rattle.ndarray.specs.Grid.{Grid, cell}
use Rattle.ndarray.specs.Integers.{int_products, int_sums}
use Rattle.ndarray.specs.Matrices.{Matrix}
use Rattle.ndarray.specs.Products.{ShapesMultiply, column_of, matrix_of, product_of, products_of}
use Rattle.ndarray.specs.Sums.{total}
use Rattle.ndarray.specs.Views.{axis_item}
use Rattle.ndarray.specs.WholeValues.{HasMagnitudesInRange, i64_values}
use Rattle.ndarray_examples.specs.Callers.{whole_number}

-- the product of the first n numbers on the diagonal of a matrix
abbrev pub diagonal_product : Grid ℤ → ℕ → ℤ
diagonal_product a zero = pos 1
diagonal_product a (suc n) = diagonal_product a n *ℤ whole_number (cell a (n ∷ n ∷ []))

-- a matrix is square, and each product of the first few numbers on its diagonal is an i64
pub record HasDiagonalInRange (a : Grid ℤ) : Type 0 where
  pub square : slice_index a.lengths 0 ≡ slice_index a.lengths 1
  pub fits : (n : ℕ) → n ≤ slice_index a.lengths 0 → FitsSigned w64 (diagonal_product a n)

-- each number of one vector times each number of another is an i64
abbrev pub AreProductsInRange : Grid ℤ → Grid ℤ → Type 0
AreProductsInRange x y = (i j : ℕ) (a b : ℤ) → cell x (i ∷ []) ≡ Some a → cell y (j ∷ []) ≡ Some b → FitsSigned w64 (a *ℤ b)

-- the product of the number of one vector at the first index of a list and the number of another at the second
abbrev pub product_of_two : Grid ℤ → Grid ℤ → List ℕ → ℤ
product_of_two x y is = whole_number (cell x (slice_index is 0 ∷ [])) *ℤ whole_number (cell y (slice_index is 1 ∷ []))

-- the sample at an index list times a gain, shifted right by a number of bits
abbrev pub amplified_at : ℤ → ℕ → Grid ℤ → List ℕ → ℤ
amplified_at gain bits signal is = int_shr (whole_number (cell signal is) *ℤ gain) bits

-- the products of the numbers of a row of a table and those of a vector, added up
abbrev pub projected_at : Grid ℤ → Grid ℤ → List ℕ → ℤ
projected_at points direction is = total int_sums (products_of int_products (λ x. x) (axis_item points 0 (slice_index is 0)).cells direction.cells)

-- a matrix times a vector
abbrev pub applied : Grid ℤ → Grid ℤ → Matrix ℤ
applied a x = product_of i64_values (matrix_of i64_values a) (column_of i64_values x)

-- and the matrix times that
abbrev pub applied_twice : Grid ℤ → Grid ℤ → Matrix ℤ
applied_twice a x = product_of i64_values (matrix_of i64_values a) (applied a x)

-- a matrix is square, it and a vector multiply, and the absolute values of the products of both inner sums add up to an i64
pub record MayApplyTwice (a x : Grid ℤ) : Type 0 where
  pub square : slice_index a.lengths 0 ≡ slice_index a.lengths 1
  pub shapes : ShapesMultiply a.lengths x.lengths
  pub once : HasMagnitudesInRange (FitsSigned w64) (matrix_of i64_values a) (column_of i64_values x)
  pub twice : HasMagnitudesInRange (FitsSigned w64) (matrix_of i64_values a) (applied a x)
