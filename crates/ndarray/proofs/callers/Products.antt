-- Products of a matrix with a vector or a matrix, from what is known of each row, and of the vector or each column.
use Rattle.std.proofs.Common.{◌≡◌, ◌∙◌, ◌∷◌, [], ℕ, List, ◌<◌, Some, ap, arith, get_or, length, lit<, refl, subst, sym}
use Rattle.ndarray.specs.Chains.{HasColumn, HasMatrix}
use Rattle.ndarray.specs.Grid.{Grid, IsGrid, cell}
use Rattle.ndarray.specs.Index.{InBox}
use Rattle.ndarray.specs.Matrices.{inner_products}
use Rattle.ndarray.specs.Products.{HasSumsInRange, column_of, matrix_of, product_of, products_of}
use Rattle.ndarray.specs.Sums.{IsSummable, total}
use Rattle.ndarray.specs.Views.{axis_item}
use Rattle.ndarray.specs.declared.elements.Valued.{Ghosts as ValuedGhosts}
use Rattle.ndarray.proofs.boxes.Boxes.{InBox-get}
use Rattle.ndarray.proofs.cells.Cells.{cell-inside}
use Rattle.ndarray.proofs.cells.Matrices.{column-values, row-values, vector-values}
use Rattle.ndarray.proofs.sums.InnerSums.{lists-meet}
use Rattle.ndarray.proofs.views.WholeItems.{item-whole}
-- A list of one length and a list of two are their elements; two functions that agree below n have the same values below n.
pub use Rattle.ndarray.proofs.cells.Matrices.{below-same, one-length, two-lengths}
-- What `dot` requires of the shapes of vectors and matrices; where one side is a vector, no limit.
pub use Rattle.ndarray.proofs.boxes.ProductShapes.{matrix-shapes, vector-shapes}
pub use Rattle.ndarray.proofs.algebra.Chains.{matrix-by_vector}
-- The last length of a product, where the right side has two axes or more.
pub use Rattle.ndarray.proofs.algebra.DotChains.{product-last}

-- A matrix and a vector, whose inner lengths are equal.
module _ {A : Type 0} (e : ValuedGhosts A) (g h : Grid A) (two : length g.lengths ≡ 2) (one : length h.lengths ≡ 1) (whole : IsGrid h) (inner : get_or g.lengths 1 0 ≡ get_or h.lengths 0 0) where
  -- what `dot` requires of them, where that of each row and the vector is known
  pub rows-summable : ((i : ℕ) → i < get_or g.lengths 0 0 → IsGrid (axis_item g 0 i) × IsSummable e.addition e.InRange (products_of e.multiplication e.meaning (axis_item g 0 i).cells h.cells)) → HasSumsInRange e (matrix_of e g) (column_of e h)
  rows-summable rows i j lt first =
      let (row_whole, sums) = rows i lt in
      let meet = lists-meet e.multiplication e.meaning (axis_item g 0 i).cells h.cells _ _ _ _
      (row-values e.meaning e.addition.unit g (axis_item g 0 i) two row_whole i refl)
      (vector-values e.meaning e.addition.unit h whole one) inner in
      subst (IsSummable e.addition e.InRange) meet.0 sums

  -- an entry of the product is the inner sum of the row and the vector
  pub row-product : (i : ℕ) → IsGrid (axis_item g 0 i) → (product_of e (matrix_of e g) (column_of e h)).cell i 0 ≡ total e.addition (products_of e.multiplication e.meaning (axis_item g 0 i).cells h.cells)
  row-product i row_whole =
      let meet = lists-meet e.multiplication e.meaning (axis_item g 0 i).cells h.cells _ _ _ _
      (row-values e.meaning e.addition.unit g (axis_item g 0 i) two row_whole i refl)
      (vector-values e.meaning e.addition.unit h whole one) inner in
      sym (ap (total e.addition) meet.0)

  -- the value of each cell of an array that has the product's values is the inner sum of its row and the vector
  pub column-cells : IsGrid g → (r : Grid A) → HasColumn e (product_of e (matrix_of e g) (column_of e h)) r → (is : List ℕ) (z : A) → cell r is ≡ Some z
      → e.meaning z ≡ total e.addition (products_of e.multiplication e.meaning (axis_item g 0 (get_or is 0 0)).cells h.cells)
  column-cells g_whole r made is z there =
      let rows = get_or g.lengths 0 0 ∷ [] in
      let below : get_or is 0 0 < get_or g.lengths 0 0 = InBox-get rows is 0 (subst (λ ns. InBox ns is) made.lengths (cell-inside r is z there)) (lit< tt) in
      made.cells is z there ∙ row-product (get_or is 0 0) (item-whole g g_whole 0 (get_or is 0 0) (omega (arith, two)) below)

-- Two matrices, whose inner lengths are equal.
module _ {A : Type 0} (e : ValuedGhosts A) (g h : Grid A) (two : length g.lengths ≡ 2) (both : length h.lengths ≡ 2) (inner : get_or g.lengths 1 0 ≡ get_or h.lengths 0 0) where
  -- what `dot` requires at row i and column j, where that of the two as vectors is known
  pub entry-summable : (i j : ℕ) → IsGrid (axis_item g 0 i) → IsGrid (axis_item h 1 j) → IsSummable e.addition e.InRange (products_of e.multiplication e.meaning (axis_item g 0 i).cells (axis_item h 1 j).cells)
      → IsSummable e.addition e.InRange (inner_products e.multiplication (matrix_of e g) (matrix_of e h) i j)
  entry-summable i j row_whole column_whole sums =
      let meet = lists-meet e.multiplication e.meaning (axis_item g 0 i).cells (axis_item h 1 j).cells _ _ _ _
      (row-values e.meaning e.addition.unit g (axis_item g 0 i) two row_whole i refl)
      (column-values e.meaning e.addition.unit h (axis_item h 1 j) both column_whole j refl) inner in
      subst (IsSummable e.addition e.InRange) meet.0 sums

  -- the entry there is the inner sum of the two
  pub entry-product : (i j : ℕ) → IsGrid (axis_item g 0 i) → IsGrid (axis_item h 1 j)
      → (product_of e (matrix_of e g) (matrix_of e h)).cell i j ≡ total e.addition (products_of e.multiplication e.meaning (axis_item g 0 i).cells (axis_item h 1 j).cells)
  entry-product i j row_whole column_whole =
      let meet = lists-meet e.multiplication e.meaning (axis_item g 0 i).cells (axis_item h 1 j).cells _ _ _ _
      (row-values e.meaning e.addition.unit g (axis_item g 0 i) two row_whole i refl)
      (column-values e.meaning e.addition.unit h (axis_item h 1 j) both column_whole j refl) inner in
      sym (ap (total e.addition) meet.0)

  -- the value of each cell of an array that has the product's values is the inner sum of its row and its column
  pub matrix-cells : IsGrid g → IsGrid h → (r : Grid A) → HasMatrix e (product_of e (matrix_of e g) (matrix_of e h)) r → (is : List ℕ) (z : A) → cell r is ≡ Some z
      → e.meaning z ≡ total e.addition (products_of e.multiplication e.meaning (axis_item g 0 (get_or is 0 0)).cells (axis_item h 1 (get_or is 1 0)).cells)
  matrix-cells g_whole h_whole r made is z there =
      let inside : InBox (get_or g.lengths 0 0 ∷ get_or h.lengths 1 0 ∷ []) is = subst (λ ns. InBox ns is) made.lengths (cell-inside r is z there) in
      let row : get_or is 0 0 < get_or g.lengths 0 0 = InBox-get (get_or g.lengths 0 0 ∷ get_or h.lengths 1 0 ∷ []) is 0 inside (lit< tt) in
      let column : get_or is 1 0 < get_or h.lengths 1 0 = InBox-get (get_or g.lengths 0 0 ∷ get_or h.lengths 1 0 ∷ []) is 1 inside (lit< tt) in
      made.cells is z there
      ∙ entry-product (get_or is 0 0) (get_or is 1 0) (item-whole g g_whole 0 (get_or is 0 0) (omega (arith, two)) row) (item-whole h h_whole 1 (get_or is 1 0) (omega (arith, both)) column)
