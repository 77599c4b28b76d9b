-- Laws of inner products, of vectors and through a matrix.
use Rattle.std.specs.Prelude.{◌≡◌, List}
use Rattle.ndarray.specs.Algebra.{CommutativeMonoid}
use Rattle.ndarray.specs.Matrices.{IsSameMatrix, Matrix, matrix_product, transpose}
use Rattle.ndarray.specs.Products.{products_of}
use Rattle.ndarray.specs.Sums.{total}

module _ {C : Type 0} (plus times : CommutativeMonoid C) where
  -- the sum of the products of two lists, place by place, is that of the second and the first
  abbrev pub InnerProductsCommute : {A : Type 0} → (A → C) → Type 0
  InnerProductsCommute {A} value = (xs ys : List A) → total plus (products_of times value xs ys) ≡ total plus (products_of times value ys xs)

  -- of columns x of X and y of Y, x times Ay is the transpose of A times x, times y; X has as many rows as A
  abbrev pub MatricesChangeSides : Type 0
  MatricesChangeSides = (x a y : Matrix C) → x.rows ≡ a.rows
      → IsSameMatrix (matrix_product plus times (transpose x) (matrix_product plus times a y)) (matrix_product plus times (transpose (matrix_product plus times (transpose a) x)) y)
