-- Matrices of values, their products, transposes and Kronecker products.
use Rattle.std.specs.Prelude.{◌≡◌, ℕ, zero, suc, ◌<◌, ◌*◌, ◌/◌, ◌%◌, List, [], ◌∷◌}
use Rattle.ndarray.specs.Algebra.{CommutativeMonoid}
use Rattle.ndarray.specs.Sums.{total}

-- the values of a function at 0, 1, .. and so on below n
abbrev pub values_below : {C : Type 0} → ℕ → (ℕ → C) → List C
values_below zero f = []
values_below (suc n) f = f 0 ∷ values_below n (λ i. f (suc i))

-- a matrix: its numbers of rows and columns, and a value at each row and column
pub record Matrix (C : Type 0) : Type 0 where
  pub rows : ℕ
  pub columns : ℕ
  pub cell : ℕ → ℕ → C

-- the same numbers of rows and columns, and the same values in them
pub record IsSameMatrix {C : Type 0} (a b : Matrix C) : Type 0 where
  pub rows : a.rows ≡ b.rows
  pub columns : a.columns ≡ b.columns
  pub cell : (i j : ℕ) → i < a.rows → j < a.columns → a.cell i j ≡ b.cell i j

-- the products of row i of a matrix with column j of another, one for each inner index
abbrev pub inner_products : {C : Type 0} → CommutativeMonoid C → Matrix C → Matrix C → ℕ → ℕ → List C
inner_products times a b i j = values_below a.columns (λ x. times.op (a.cell i x) (b.cell x j))

-- the product of two matrices: at row i and column j, the sum of the products of row i with column j
abbrev pub matrix_product : {C : Type 0} → CommutativeMonoid C → CommutativeMonoid C → Matrix C → Matrix C → Matrix C
matrix_product plus times a b = record {
  rows = a.rows;
  columns = b.columns;
  cell = λ i j. total plus (inner_products times a b i j);
}

-- the matrix with its columns as rows
abbrev pub transpose : {C : Type 0} → Matrix C → Matrix C
transpose a = record { rows = a.columns; columns = a.rows; cell = λ i j. a.cell j i }

-- the Kronecker product: a block for each value of the first matrix, which is that value times the second matrix
abbrev pub kronecker_product : {C : Type 0} → CommutativeMonoid C → Matrix C → Matrix C → Matrix C
kronecker_product times a b = record {
  rows = a.rows * b.rows;
  columns = a.columns * b.columns;
  cell = λ p q. times.op (a.cell (p / b.rows) (q / b.columns)) (b.cell (p % b.rows) (q % b.columns));
}
