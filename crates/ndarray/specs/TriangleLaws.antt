-- Laws of triangles: of triangles of triangles, of their transposes, and of products of triangular matrices.
use Rattle.std.specs.Prelude.{◌≡◌, ℕ, ◌<◌, ◌≤◌, ℤ, neg_ℤ, length}
use Rattle.std.specs.Int.{int_max, int_min}
use Rattle.ndarray.specs.Algebra.{CommutativeMonoid}
use Rattle.ndarray.specs.Grid.{Grid, IsGrid}
use Rattle.ndarray.specs.Matrices.{Matrix, matrix_product}
use Rattle.ndarray.specs.Triangles.{lower_triangle, upper_triangle}
use Rattle.ndarray.specs.Views.{transpose_of}

-- the upper triangle from diagonal k on of the one from l on is the one from the larger of both on
abbrev pub UpperTrianglesMeet : Type 0 → Type 0
UpperTrianglesMeet A = (zero : A) (k l : ℤ) (g : Grid A) → IsGrid g → upper_triangle k zero (upper_triangle l zero g) ≡ upper_triangle (int_max k l) zero g

-- the lower triangle up to diagonal k of the one up to l is the one up to the smaller of both
abbrev pub LowerTrianglesMeet : Type 0 → Type 0
LowerTrianglesMeet A = (zero : A) (k l : ℤ) (g : Grid A) → IsGrid g → lower_triangle k zero (lower_triangle l zero g) ≡ lower_triangle (int_min k l) zero g

-- an upper triangle of a lower one is that lower triangle of the upper one
abbrev pub TrianglesCommute : Type 0 → Type 0
TrianglesCommute A = (zero : A) (k l : ℤ) (g : Grid A) → IsGrid g → upper_triangle k zero (lower_triangle l zero g) ≡ lower_triangle l zero (upper_triangle k zero g)

-- on at most two axes, the transpose of the upper triangle from diagonal k on is the lower triangle of the transpose up to diagonal -k
abbrev pub UpperTrianglesTranspose : Type 0 → Type 0
UpperTrianglesTranspose A = (zero : A) (k : ℤ) (g : Grid A) → IsGrid g → length g.lengths ≤ 2 → transpose_of (upper_triangle k zero g) ≡ lower_triangle (neg_ℤ k) zero (transpose_of g)

-- and the transpose of the lower triangle up to diagonal k is the upper triangle of the transpose from diagonal -k on
abbrev pub LowerTrianglesTranspose : Type 0 → Type 0
LowerTrianglesTranspose A = (zero : A) (k : ℤ) (g : Grid A) → IsGrid g → length g.lengths ≤ 2 → transpose_of (lower_triangle k zero g) ≡ upper_triangle (neg_ℤ k) zero (transpose_of g)

module _ {C : Type 0} (plus times : CommutativeMonoid C) where
  -- the matrix has zero above its diagonal
  abbrev pub IsLower : Matrix C → Type 0
  IsLower m = (i j : ℕ) → i < m.rows → j < m.columns → i < j → m.cell i j ≡ plus.unit

  -- the product of two such matrices, where the inner lengths are equal, has zero there too
  abbrev pub LowerMatricesMultiply : Type 0
  LowerMatricesMultiply = (a b : Matrix C) → a.columns ≡ b.rows → IsLower a → IsLower b → IsLower (matrix_product plus times a b)
