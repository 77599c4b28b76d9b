-- General products that are made in part: the cells of some rows and columns.
use Rattle.std.specs.Prelude.{◌≡◌, ℕ, ◌-◌, ◌<◌, ◌≤◌, List, Some, remove, slice_get, slice_index, slice_set}
use Rattle.ndarray.specs.Grid.{Grid, IsGrid, cell}
use Rattle.ndarray.specs.Matrices.{Matrix}
use Rattle.ndarray.specs.Products.{AddsScaled, CanAddScaled, value_or}
use Rattle.ndarray.specs.declared.elements.Valued.{Ghosts as ValuedGhosts}

-- ---- which cells

-- from place j0 up to j1 along an axis, and as ks on the others
pub record InRun (ks : List ℕ) (axis j0 j1 : ℕ) (is : List ℕ) : Type 0 where
  pub from_column : j0 ≤ slice_index is axis
  pub to_column : slice_index is axis < j1
  pub others : is ≡ slice_set ks axis (slice_index is axis)

-- of two numbers, the one that is not at the axis; 0 where there is none
abbrev pub other_index : ℕ → List ℕ → ℕ
other_index axis is = slice_index (remove is axis) 0

-- rows from i0 up to i1, and columns from j0 up to j1, where the columns lie along an axis
pub record InTile (axis i0 i1 j0 j1 : ℕ) (is : List ℕ) : Type 0 where
  pub from_row : i0 ≤ other_index axis is
  pub to_row : other_index axis is < i1
  pub from_column : j0 ≤ slice_index is axis
  pub to_column : slice_index is axis < j1

-- ---- the values there

-- of a matrix whose columns lie along an axis, from one place on
abbrev pub entries_along : {C : Type 0} → ℕ → ℕ → Matrix C → List ℕ → C
entries_along axis first m is = m.cell (other_index axis is) (slice_index is axis - first)

-- of its first row
abbrev pub row_along : {C : Type 0} → ℕ → ℕ → Matrix C → List ℕ → C
row_along axis first m is = m.cell 0 (slice_index is axis - first)

module _ {A : Type 0} (e : ValuedGhosts A) where
  -- of a list
  abbrev pub list_along : ℕ → ℕ → List A → List ℕ → e.Carrier
  list_along axis first xs is = value_or e.meaning e.addition.unit (slice_get xs (slice_index is axis - first))

  -- ---- what is left there

  -- at the index lists of D each cell is its old value times beta plus alpha times the sum there; the others are as they were
  pub record AccumulatesIn (D : List ℕ → Type 0) (alpha beta : A) (sum : List ℕ → e.Carrier) (old new : Grid A) : Type 0 where
    pub lengths : new.lengths ≡ old.lengths
    pub whole : IsGrid new
    pub done : (is : List ℕ) (z : A) → D is → cell new is ≡ Some z → (x : A) × (cell old is ≡ Some x) × AddsScaled e (e.meaning alpha) (e.meaning beta) (e.meaning x) (sum is) (e.meaning z)
    pub left : (is : List ℕ) → (D is → ⊥) → cell new is ≡ cell old is

  -- that may be done there
  abbrev pub CanAccumulateIn : (List ℕ → Type 0) → A → A → (List ℕ → e.Carrier) → Grid A → Type 0
  CanAccumulateIn D alpha beta sum old = (is : List ℕ) (x : A) → D is → cell old is ≡ Some x → CanAddScaled e (e.meaning alpha) (e.meaning beta) (e.meaning x) (sum is)
