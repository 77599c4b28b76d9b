-- Kronecker products with identity matrices, and of several matrices.
use Rattle.std.specs.Prelude.{◌≡◌, ℕ, ◌*◌, All, List, [], ◌∷◌, map}
use Rattle.ndarray.specs.Algebra.{CommutativeMonoid}
use Rattle.ndarray.specs.Matrices.{IsSameMatrix, Matrix, kronecker_product, matrix_product}
use Rattle.ndarray.specs.MatrixPowers.{identity_matrix}

-- the Kronecker product of a matrix and those of a list in turn
abbrev pub kronecker_of_all : {C : Type 0} → CommutativeMonoid C → Matrix C → List (Matrix C) → Matrix C
kronecker_of_all times a [] = a
kronecker_of_all times a (b ∷ bs) = kronecker_product times a (kronecker_of_all times b bs)

module _ {C : Type 0} (plus times : CommutativeMonoid C) where
  -- the Kronecker product of two identity matrices is the identity matrix
  abbrev pub KroneckerOfIdentities : Type 0
  KroneckerOfIdentities = (m n : ℕ) → IsSameMatrix (kronecker_product times (identity_matrix plus times m) (identity_matrix plus times n)) (identity_matrix plus times (m * n))

  -- the identity matrix of one row changes nothing, on the left and on the right
  abbrev pub OneIsKroneckerNeutral : Type 0
  OneIsKroneckerNeutral = (a : Matrix C) → IsSameMatrix (kronecker_product times (identity_matrix plus times 1) a) a × IsSameMatrix (kronecker_product times a (identity_matrix plus times 1)) a

  -- The product of the Kronecker products of any number of matrices is that of their products, where the inner lengths of each two behind the first are equal.
  abbrev pub KroneckersOfAllMultiply : Type 0
  KroneckersOfAllMultiply = (a c : Matrix C) (ps : List (Matrix C × Matrix C)) → All (λ p. p.0.columns ≡ p.1.rows) ps
      → IsSameMatrix (matrix_product plus times (kronecker_of_all times a (map (λ p. p.0) ps)) (kronecker_of_all times c (map (λ p. p.1) ps))) (kronecker_of_all times (matrix_product plus times a c) (map (λ p. matrix_product plus times p.0 p.1) ps))
