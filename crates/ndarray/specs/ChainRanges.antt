-- Ranges of products of three and of four arrays of whole numbers.
use Rattle.std.specs.Prelude.{◌≢◌, ℤ, ◌*◌, [], ◌∷◌, slice_index}
use Rattle.ndarray.specs.Grid.{Grid}
use Rattle.ndarray.specs.Index.{size}
use Rattle.ndarray.specs.Products.{HasProductsInRange, column_of, matrix_of, product_of}
use Rattle.ndarray.specs.WholeValues.{HasMagnitudesInRange, whole_numbers}

-- the product of A kron B and C kron D has cells
abbrev pub MixedProductHasCells : {A : Type 0} → Grid A → Grid A → Grid A → Grid A → Type 0
MixedProductHasCells a b c d = size (slice_index a.lengths 0 * slice_index b.lengths 0 ∷ slice_index c.lengths 1 * slice_index d.lengths 1 ∷ []) ≢ 0

module _ {A : Type 0} (value : A → ℤ) (fits : ℤ → Type 0) where
  -- where A has rows, the absolute values of the products of each row of B with x add up within the type; and so do those of each row of A with Bx
  abbrev pub HasChainInRange : Grid A → Grid A → Grid A → Type 0
  HasChainInRange a b x =
      let v = whole_numbers value fits in
      (slice_index a.lengths 0 ≢ 0 → HasMagnitudesInRange fits (matrix_of v b) (column_of v x))
      × HasMagnitudesInRange fits (matrix_of v a) (product_of v (matrix_of v b) (column_of v x))

  -- where the product of A kron B and C kron D has cells, those of AC and of BD add up within the type, and the type has the product of each cell of AC and each of BD
  abbrev pub HasMixedProductInRange : Grid A → Grid A → Grid A → Grid A → Type 0
  HasMixedProductInRange a b c d =
      let v = whole_numbers value fits in
      (MixedProductHasCells a b c d → HasMagnitudesInRange fits (matrix_of v a) (matrix_of v c))
      × (MixedProductHasCells a b c d → HasMagnitudesInRange fits (matrix_of v b) (matrix_of v d))
      × HasProductsInRange v (product_of v (matrix_of v a) (matrix_of v c)) (product_of v (matrix_of v b) (matrix_of v d))
