-- Laws of ranges: where every selection of an array's cells has its total in range, every selection of a part's cells has; and of products of matrices and of their parts.
use Rattle.std.specs.Prelude.{◌≡◌, ℕ, ℤ, ◌<◌, ◌≤◌, List, length, slice_index}
use Rattle.ndarray.specs.Algebra.{CommutativeMonoid}
use Rattle.ndarray.specs.AlongAxis.{IsSummableArray}
use Rattle.ndarray.specs.BlockLaws.{one_above, one_row, side_by_side}
use Rattle.ndarray.specs.Elementwise.{CanMap}
use Rattle.ndarray.specs.Grid.{Grid, IsGrid}
use Rattle.ndarray.specs.Matrices.{Matrix}
use Rattle.ndarray.specs.Products.{HasSumsInRange}
use Rattle.ndarray.specs.Slices.{IsSliceOf, axis_slice}
use Rattle.ndarray.specs.Subviews.{ArePositive, exact_chunks_of, lanes_of, windows_of}
use Rattle.ndarray.specs.Views.{axis_item, axis_part}
use Rattle.ndarray.specs.WholeValues.{HasMagnitudesInRange}
use Rattle.ndarray.specs.declared.base.slice.Slice.{Slice}
use Rattle.ndarray.specs.declared.elements.Valued.{Ghosts as ValuedGhosts}

module _ {A C : Type 0} (M : CommutativeMonoid C) (in_range : C → Type 0) (value : A → C) where
  -- of the part of an axis from one index up to another
  abbrev pub PartsStayInRange : Type 0
  PartsStayInRange = (g : Grid A) (axis from to : ℕ) → IsGrid g → axis < length g.lengths → from ≤ to → to ≤ slice_index g.lengths axis
      → IsSummableArray M in_range value g → IsSummableArray M in_range value (axis_part g axis from to)

  -- of a slice of an axis
  abbrev pub SlicesStayInRange : Type 0
  SlicesStayInRange = (g : Grid A) (axis : ℕ) (s : Slice) → IsGrid g → axis < length g.lengths → IsSliceOf (slice_index g.lengths axis) s
      → IsSummableArray M in_range value g → IsSummableArray M in_range value (axis_slice g axis s)

  -- of an item along an axis
  abbrev pub ItemsStayInRange : Type 0
  ItemsStayInRange = (g : Grid A) (axis i : ℕ) → IsGrid g → axis < length g.lengths → i < slice_index g.lengths axis
      → IsSummableArray M in_range value g → IsSummableArray M in_range value (axis_item g axis i)

  -- of each lane along an axis
  abbrev pub LanesStayInRange : Type 0
  LanesStayInRange = (g : Grid A) (axis : ℕ) → IsGrid g → axis < length g.lengths → IsSummableArray M in_range value g → CanMap (IsSummableArray M in_range value) (lanes_of g axis)

  -- of each window
  abbrev pub WindowsStayInRange : Type 0
  WindowsStayInRange = (g : Grid A) (ws steps : List ℕ) → IsGrid g → ArePositive g.lengths ws → ArePositive g.lengths steps
      → IsSummableArray M in_range value g → CanMap (IsSummableArray M in_range value) (windows_of g ws steps)

  -- of each whole chunk
  abbrev pub ChunksStayInRange : Type 0
  ChunksStayInRange = (g : Grid A) (cs : List ℕ) → IsGrid g → ArePositive g.lengths cs
      → IsSummableArray M in_range value g → CanMap (IsSummableArray M in_range value) (exact_chunks_of g cs)

-- ---- products of matrices

module _ {A : Type 0} (e : ValuedGhosts A) where
  -- where the inner sums of AB are in range, so are those of a row of A times B
  abbrev pub SumsOfRowsStayInRange : Type 0
  SumsOfRowsStayInRange = (a b : Matrix e.Carrier) (i : ℕ) → i < a.rows → HasSumsInRange e a b → HasSumsInRange e (one_row i a) b

  -- where those of A above B, times C, are, so are those of AC and of BC, where A and B have as many columns
  abbrev pub SumsOfBlocksStayInRange : Type 0
  SumsOfBlocksStayInRange = (a b c : Matrix e.Carrier) → a.columns ≡ b.columns → HasSumsInRange e (one_above a b) c → HasSumsInRange e a c × HasSumsInRange e b c

  -- and where those of A times B and C side by side are, so are those of AB and of AC
  abbrev pub SumsBySidesStayInRange : Type 0
  SumsBySidesStayInRange = (a b c : Matrix e.Carrier) → HasSumsInRange e a (side_by_side b c) → HasSumsInRange e a b × HasSumsInRange e a c

module _ (fits : ℤ → Type 0) where
  -- the same of the absolute values of the products of whole numbers, which the range tests add up
  abbrev pub MagnitudesOfRowsStayInRange : Type 0
  MagnitudesOfRowsStayInRange = (a b : Matrix ℤ) (i : ℕ) → i < a.rows → HasMagnitudesInRange fits a b → HasMagnitudesInRange fits (one_row i a) b

  abbrev pub MagnitudesOfBlocksStayInRange : Type 0
  MagnitudesOfBlocksStayInRange = (a b c : Matrix ℤ) → a.columns ≡ b.columns → HasMagnitudesInRange fits (one_above a b) c → HasMagnitudesInRange fits a c × HasMagnitudesInRange fits b c

  abbrev pub MagnitudesBySidesStayInRange : Type 0
  MagnitudesBySidesStayInRange = (a b c : Matrix ℤ) → HasMagnitudesInRange fits a (side_by_side b c) → HasMagnitudesInRange fits a b × HasMagnitudesInRange fits a c
