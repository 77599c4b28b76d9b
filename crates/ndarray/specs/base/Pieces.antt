-- Inside `subviews`: equal pieces of an array, one at each position of a box.
use Rattle.std.specs.Prelude.{◌≡◌, ℕ, ◌*◌, ◌%◌, ◌^◌, ◌<◌, ◌⊎◌, List, length, map, replicate, slice_index, slice_set, Option, All}
use Rattle.ndarray.specs.Index.{InBox, row_order}
use Rattle.ndarray.specs.Limits.{IsWithinLimit}
use Rattle.ndarray.specs.order.Rows.{joined}
use Rattle.ndarray.specs.Grid.{Grid, IsGrid, array_by}
use Rattle.ndarray.specs.base.Places.{place, Reaches, grid_at}
use Rattle.ndarray.specs.base.Masks.{Shares}
use Rattle.ndarray.specs.base.CellLayouts.{CellLayout, cell_layout}

-- at each position of the box of ps, the array of lengths ns that begins where the position lies
abbrev pub pieces_at : {A : Type 0} → (ℕ → Option A) → List ℕ → ℕ → List ℕ → List ℕ → List ℕ → Grid (Grid A)
pieces_at at ps start steps ns bs = array_by ps (λ p. grid_at at ns (place start steps p) bs)

-- each of them reaches elements
pub record ReachPieces {A : Type 0} (at : ℕ → Option A) (ps : List ℕ) (start : ℕ) (steps ns bs : List ℕ) : Type 0 where
  pub as_many : length steps ≡ length ps
  pub limit : IsWithinLimit ps
  pub each : (p : List ℕ) → InBox ps p → Reaches ⊥ at ns (place start steps p) bs

-- the lengths of windows of an array: as many, and 0 only on an axis of length 0
pub record AreWindowsOf (ns ws : List ℕ) : Type 0 where
  pub as_many : length ws ≡ length ns
  pub none : (k : ℕ) → k < length ns → slice_index ws k ≡ 0 → slice_index ns k ≡ 0

-- how far positions lie apart: the stride times the step, wherever there are windows
pub record AreStepsOf (counts bs ss steps : List ℕ) : Type 0 where
  pub as_many : length steps ≡ length counts
  pub each : (k : ℕ) → k < length counts → (slice_index counts k ≡ 0) ⊎ (slice_index steps k ≡ (slice_index bs k * slice_index ss k) % 2 ^ 64)

-- where the piece at a position lies
abbrev pub piece_layout : ℕ → List ℕ → List ℕ → List ℕ → List ℕ → CellLayout
piece_layout start steps ns bs p = cell_layout ns (place start steps p) bs

-- where those at these positions lie
abbrev pub piece_layouts : ℕ → List ℕ → List ℕ → List ℕ → List (List ℕ) → List CellLayout
piece_layouts start steps ns bs ps = map (piece_layout start steps ns bs) ps

-- each of the pieces reaches elements, and no two have a place in common
pub record SharePieces {A : Type 0} (at : ℕ → Option A) (ps : List ℕ) (start : ℕ) (steps ns bs : List ℕ) : Type 0 where
  pub as_many : length steps ≡ length ps
  pub limit : IsWithinLimit ps
  pub shares : Shares at (piece_layouts start steps ns bs (row_order ps))

-- the positions that are left are of the box
pub record ArePiecePositions (ps steps : List ℕ) (left : List (List ℕ)) : Type 0 where
  pub as_many : length steps ≡ length ps
  pub within : All (InBox ps) left

-- pieces along one axis: on each other axis there is one position
pub record AreAlong {B : Type 0} (axis : ℕ) (g : Grid B) : Type 0 where
  pub whole : IsGrid g
  pub below : axis < length g.lengths
  pub alone : g.lengths ≡ slice_set (replicate (length g.lengths) 1) axis (slice_index g.lengths axis)

-- the rows of positions are not empty and of the box, and the pieces at all of their positions share out the storage
pub record ShareRows {A : Type 0} (at : ℕ → Option A) (ps : List ℕ) (start : ℕ) (steps ns bs : List ℕ) (rows : List (List (List ℕ))) : Type 0 where
  pub as_many : length steps ≡ length ps
  pub each : All (λ row. (0 < length row) × All (InBox ps) row) rows
  pub shares : Shares at (piece_layouts start steps ns bs (joined rows))
