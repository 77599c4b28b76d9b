-- Matrices of blocks, and their products.
use Rattle.std.specs.Prelude.{◌≡◌, ℕ, ◌+◌, ◌-◌, nat_lt, if◌then◌else◌}
use Rattle.ndarray.specs.Algebra.{CommutativeMonoid}
use Rattle.ndarray.specs.Matrices.{IsSameMatrix, Matrix, matrix_product}
use Rattle.ndarray.specs.MatrixSums.{matrix_sum}

module _ {C : Type 0} where
  -- two matrices of as many rows side by side
  abbrev pub side_by_side : Matrix C → Matrix C → Matrix C
  side_by_side a b = record { rows = a.rows; columns = a.columns + b.columns; cell = λ i j. if nat_lt j a.columns then a.cell i j else b.cell i (j - a.columns) }

  -- two matrices of as many columns one above the other
  abbrev pub one_above : Matrix C → Matrix C → Matrix C
  one_above a b = record { rows = a.rows + b.rows; columns = a.columns; cell = λ i j. if nat_lt i a.rows then a.cell i j else b.cell (i - a.rows) j }

  -- a row of a matrix as a matrix
  abbrev pub one_row : ℕ → Matrix C → Matrix C
  one_row i m = record { rows = 1; columns = m.columns; cell = λ _ j. m.cell i j }

module _ {C : Type 0} (plus times : CommutativeMonoid C) where
  -- A and B side by side times C above D is AC + BD, where A has as many columns as C has rows
  abbrev pub BlocksMultiply : Type 0
  BlocksMultiply = (a b c d : Matrix C) → a.columns ≡ c.rows
      → IsSameMatrix (matrix_product plus times (side_by_side a b) (one_above c d)) (matrix_sum plus (matrix_product plus times a c) (matrix_product plus times b d))

  -- A times B and C side by side is AB and AC side by side
  abbrev pub ColumnsMultiply : Type 0
  ColumnsMultiply = (a b c : Matrix C) → IsSameMatrix (matrix_product plus times a (side_by_side b c)) (side_by_side (matrix_product plus times a b) (matrix_product plus times a c))

  -- A above B, times C, is AC above BC, where A and B have as many columns
  abbrev pub RowsMultiply : Type 0
  RowsMultiply = (a b c : Matrix C) → a.columns ≡ b.columns
      → IsSameMatrix (matrix_product plus times (one_above a b) c) (one_above (matrix_product plus times a c) (matrix_product plus times b c))

  -- a row of AB is that row of A times B
  abbrev pub RowsOfProducts : Type 0
  RowsOfProducts = (a b : Matrix C) (i : ℕ) → IsSameMatrix (one_row i (matrix_product plus times a b)) (matrix_product plus times (one_row i a) b)
