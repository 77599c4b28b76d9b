-- The cells of an array of which some diagonals of the last two axes are kept, as of a triangle.
use Rattle.std.proofs.Common.{◌≡◌, ◌∙◌, ◌≤◌, ℕ, List, Some, Bool, true, false, length, ap, subst}
use Rattle.std.specs.Prelude.{ℤ, if◌then◌else◌}
use Rattle.std.proofs.lemmas.Bool.{le-ltb}
use Rattle.ndarray.specs.Grid.{Grid, IsGrid, cell, tabulate}
use Rattle.ndarray.specs.Index.{InBox}
use Rattle.ndarray.specs.Triangles.{column_minus_row, diagonals_kept}
use Rattle.ndarray.proofs.cells.Cells.{tabulate-cell}
use Rattle.ndarray.proofs.cells.Diagonals.{kept_at}
-- what a test of whole numbers answers
pub use Rattle.ndarray.proofs.cells.Diagonals.{int_le-false, int_le-true}

module _ {A : Type 0} (keeps : ℤ → Bool) (zero_cell : A) (g : Grid A) (axes : 2 ≤ length g.lengths) (whole : IsGrid (diagonals_kept keeps zero_cell g)) (is : List ℕ) (inside : InBox g.lengths is) where
  cell-at : cell (diagonals_kept keeps zero_cell g) is ≡ kept_at keeps zero_cell g is
  cell-at =
      let made : diagonals_kept keeps zero_cell g ≡ tabulate g.lengths (kept_at keeps zero_cell g) = ap (λ t. if t then g else tabulate g.lengths (kept_at keeps zero_cell g)) (le-ltb (length g.lengths) 2 axes) in
      ap (λ h. cell h is) made ∙ tabulate-cell g.lengths (kept_at keeps zero_cell g) is (subst IsGrid made whole) inside

  -- the array's own where the test of column less row passes
  pub kept-cell : keeps (column_minus_row is) ≡ true → cell (diagonals_kept keeps zero_cell g) is ≡ cell g is
  kept-cell passes = cell-at ∙ ap (λ t. if t then cell g is else Some zero_cell) passes

  -- and zero where it fails
  pub cleared-cell : keeps (column_minus_row is) ≡ false → cell (diagonals_kept keeps zero_cell g) is ≡ Some zero_cell
  cleared-cell fails = cell-at ∙ ap (λ t. if t then cell g is else Some zero_cell) fails
