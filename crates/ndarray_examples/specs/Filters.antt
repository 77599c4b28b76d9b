-- Filters of a signal of residues, and of a table.
use Rattle.std.specs.Prelude.{◌≡◌, ◌≤◌, ◌↔◌, ℕ, ℤ, pos, Bool, List, [], ◌∷◌, Some, IsTrue}
use Rattle.ndarray.specs.Convolution.{filtered, full_convolution}
use Rattle.ndarray.specs.Grid.{Grid, IsGrid, cell}
use Rattle.ndarray.specs.Subviews.{window, window_counts}
use Rattle.residue.specs.Residue.{Below, modulus_pos, residue_products, residue_sums}

-- the valid convolution of a signal of residues modulo 5 with a kernel, and the full one of two kernels
abbrev pub filtered_residues : List (Below 5) → List (Below 5) → List (Below 5)
filtered_residues signal kernel = filtered (residue_sums 5 (modulus_pos 5)) (residue_products 5 (modulus_pos 5)) signal kernel

abbrev pub convolved_residues : List (Below 5) → List (Below 5) → List (Below 5)
convolved_residues first second = full_convolution (residue_sums 5 (modulus_pos 5)) (residue_products 5 (modulus_pos 5)) first second

-- the square of three by three cells of a table that begins at an index list
abbrev pub square : Grid ℕ → List ℕ → Grid ℕ
square table is = window table (3 ∷ 3 ∷ []) (1 ∷ 1 ∷ []) is

-- each cell of an array is the greatest of the square that begins there: it is one of that square's cells, and none of them is greater
pub record AreLocalMaxima (table r : Grid ℕ) : Type 0 where
  pub lengths : r.lengths ≡ window_counts table.lengths (3 ∷ 3 ∷ []) (1 ∷ 1 ∷ [])
  pub whole : IsGrid r
  pub bounds : (is js : List ℕ) (x y : ℕ) → cell r is ≡ Some x → cell (square table is) js ≡ Some y → y ≤ x
  pub reached : (is : List ℕ) (x : ℕ) → cell r is ≡ Some x → (js : List ℕ) × (cell (square table is) js ≡ Some x)

-- each cell of an array is zero
abbrev pub IsZero : Grid ℤ → Type 0
IsZero g = (js : List ℕ) (x : ℤ) → cell g js ≡ Some x → x ≡ pos 0

-- an array has for each position of a window of so many rows and columns whether each cell of the window is zero
pub record AreZeroTests (rows columns : ℕ) (table : Grid ℤ) (r : Grid Bool) : Type 0 where
  pub lengths : r.lengths ≡ window_counts table.lengths (rows ∷ columns ∷ []) (1 ∷ 1 ∷ [])
  pub whole : IsGrid r
  pub tests : (is : List ℕ) (b : Bool) → cell r is ≡ Some b → IsTrue b ↔ IsZero (window table (rows ∷ columns ∷ []) (1 ∷ 1 ∷ []) is)
