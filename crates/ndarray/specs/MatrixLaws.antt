-- Laws of matrices: how products, transposes and Kronecker products are related.
use Rattle.std.specs.Prelude.{◌≡◌}
use Rattle.ndarray.specs.Algebra.{CommutativeMonoid}
use Rattle.ndarray.specs.Matrices.{IsSameMatrix, Matrix, kronecker_product, matrix_product, transpose}

module _ {C : Type 0} (plus times : CommutativeMonoid C) where
  -- (AB)C is A(BC), where the inner lengths are equal
  abbrev pub ProductsAssociate : Type 0
  ProductsAssociate = (a b c : Matrix C) → a.columns ≡ b.rows → b.columns ≡ c.rows
      → IsSameMatrix (matrix_product plus times (matrix_product plus times a b) c) (matrix_product plus times a (matrix_product plus times b c))

  -- the transpose of AB is that of B times that of A, where the inner lengths are equal
  abbrev pub ProductsTranspose : Type 0
  ProductsTranspose = (a b : Matrix C) → a.columns ≡ b.rows
      → IsSameMatrix (transpose (matrix_product plus times a b)) (matrix_product plus times (transpose b) (transpose a))

  -- (A kron B)(C kron D) is AC kron BD, where the inner lengths are equal
  abbrev pub KroneckersMultiply : Type 0
  KroneckersMultiply = (a b c d : Matrix C) → a.columns ≡ c.rows → b.columns ≡ d.rows
      → IsSameMatrix (matrix_product plus times (kronecker_product times a b) (kronecker_product times c d)) (kronecker_product times (matrix_product plus times a c) (matrix_product plus times b d))

module _ {C : Type 0} (times : CommutativeMonoid C) where
  -- (A kron B) kron C is A kron (B kron C)
  abbrev pub KroneckersAssociate : Type 0
  KroneckersAssociate = (a b c : Matrix C)
      → IsSameMatrix (kronecker_product times (kronecker_product times a b) c) (kronecker_product times a (kronecker_product times b c))

  -- the transpose of A kron B is that of A kron that of B
  abbrev pub KroneckersTranspose : Type 0
  KroneckersTranspose = (a b : Matrix C) → IsSameMatrix (transpose (kronecker_product times a b)) (kronecker_product times (transpose a) (transpose b))
