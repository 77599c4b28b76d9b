-- Sums and multiples of matrices, and how products go with them.
use Rattle.std.specs.Prelude.{◌≡◌}
use Rattle.ndarray.specs.Algebra.{CommutativeMonoid}
use Rattle.ndarray.specs.Matrices.{IsSameMatrix, Matrix, matrix_product}

-- the sum of two matrices of the same numbers of rows and columns: at each row and column the sum of their values
abbrev pub matrix_sum : {C : Type 0} → CommutativeMonoid C → Matrix C → Matrix C → Matrix C
matrix_sum plus a b = record { rows = a.rows; columns = a.columns; cell = λ i j. plus.op (a.cell i j) (b.cell i j) }

-- a value times each value of a matrix
abbrev pub matrix_multiple : {C : Type 0} → CommutativeMonoid C → C → Matrix C → Matrix C
matrix_multiple times factor a = record { rows = a.rows; columns = a.columns; cell = λ i j. times.op factor (a.cell i j) }

module _ {C : Type 0} (plus times : CommutativeMonoid C) where
  -- A(B + C) is AB + AC
  abbrev pub ProductsOfSums : Type 0
  ProductsOfSums = (a b c : Matrix C)
      → IsSameMatrix (matrix_product plus times a (matrix_sum plus b c)) (matrix_sum plus (matrix_product plus times a b) (matrix_product plus times a c))

  -- (A + B)C is AC + BC, where A and B have as many columns
  abbrev pub SumsTimesMatrix : Type 0
  SumsTimesMatrix = (a b c : Matrix C) → a.columns ≡ b.columns
      → IsSameMatrix (matrix_product plus times (matrix_sum plus a b) c) (matrix_sum plus (matrix_product plus times a c) (matrix_product plus times b c))

  -- A(sB) is s(AB)
  abbrev pub ProductsOfMultiples : Type 0
  ProductsOfMultiples = (factor : C) (a b : Matrix C)
      → IsSameMatrix (matrix_product plus times a (matrix_multiple times factor b)) (matrix_multiple times factor (matrix_product plus times a b))

  -- (sA)B is s(AB)
  abbrev pub MultiplesTimesMatrix : Type 0
  MultiplesTimesMatrix = (factor : C) (a b : Matrix C)
      → IsSameMatrix (matrix_product plus times (matrix_multiple times factor a) b) (matrix_multiple times factor (matrix_product plus times a b))
