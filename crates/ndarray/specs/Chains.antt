-- Products of three and of four arrays: their shapes, and arrays with the values of a matrix.
use Rattle.std.specs.Prelude.{◌≡◌, ℕ, ◌*◌, List, [], ◌∷◌, slice_index}
use Rattle.ndarray.specs.Grid.{Grid}
use Rattle.ndarray.specs.Limits.{IsWithinLimit}
use Rattle.ndarray.specs.Matrices.{Matrix}
use Rattle.ndarray.specs.Products.{HasValues, ShapesMultiply, column_entries, matrix_entries}
use Rattle.ndarray.specs.declared.elements.Valued.{Ghosts as ValuedGhosts}

-- two matrices and a vector, in which each inner length is that of the next: the columns of the first and the rows of the second, the columns of the second and the cells of the vector
pub record ShapesChain (ns ms ks : List ℕ) : Type 0 where
  pub first : slice_index ns 1 ≡ slice_index ms 0
  pub second : slice_index ms 1 ≡ slice_index ks 0

-- four matrices A, B, C and D of which AC and BD may be formed, with a Kronecker product within the limit
pub record ShapesMultiplyInPairs (ns ms ks ls : List ℕ) : Type 0 where
  pub left : ShapesMultiply ns ks
  pub right : ShapesMultiply ms ls
  pub limit : IsWithinLimit (slice_index ns 0 * slice_index ms 0 ∷ slice_index ks 1 * slice_index ls 1 ∷ [])

module _ {A : Type 0} (e : ValuedGhosts A) where
  -- the array has two axes, and the values of the matrix
  abbrev pub HasMatrix : Matrix e.Carrier → Grid A → Type 0
  HasMatrix m r = HasValues e (m.rows ∷ m.columns ∷ []) (matrix_entries m) r

  -- the array has one axis, and the values of the first column of the matrix
  abbrev pub HasColumn : Matrix e.Carrier → Grid A → Type 0
  HasColumn m r = HasValues e (m.rows ∷ []) (column_entries m) r
