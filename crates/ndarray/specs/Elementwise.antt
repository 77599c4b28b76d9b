-- Operations on arrays, cell by cell.
use Rattle.std.specs.Prelude.{◌≡◌, List, ℕ, Some, Result, IfOk, IsOk, length}
use Rattle.ndarray.specs.Broadcast.{BroadcastsTo, broadcast_lengths, BroadcastTogether}
use Rattle.ndarray.specs.Grid.{Grid, IsGrid, cell}
use Rattle.ndarray.specs.Index.{size}
use Rattle.ndarray.specs.Updates.{is_pair_of_cells}
use Rattle.ndarray.specs.Views.{broadcast_to}

-- a clone that is made equals its source
abbrev pub ClonesAreEqual : {A : Type 0} → (A → A → Type 0) → Type 0
ClonesAreEqual {A} is_clone = (x y : A) → is_clone x y → y ≡ x

module _ {A B : Type 0} (g : Grid A) (h : Grid B) where
  -- x and y are the cells at an index list of two arrays broadcast together
  pub record AreCellsAt (is : List ℕ) (x : A) (y : B) : Type 0 where
    pub left : cell (broadcast_to g (broadcast_lengths g.lengths h.lengths)) is ≡ Some x
    pub right : cell (broadcast_to h (broadcast_lengths g.lengths h.lengths)) is ≡ Some y

  -- The shapes broadcast together, and the operation is defined on the two cells at each index list.
  pub record CanCombine (can : A → B → Type 0) : Type 0 where
    pub shapes : BroadcastTogether g.lengths h.lengths
    pub defined : (is : List ℕ) (x : A) (y : B) → AreCellsAt is x y → can x y

  -- The array has their lengths broadcast together, and its cell at each index list is what the operation gives on the two cells there.
  pub record Combines {C : Type 0} (gives : A → B → C → Type 0) (r : Grid C) : Type 0 where
    pub lengths : r.lengths ≡ broadcast_lengths g.lengths h.lengths
    pub whole : IsGrid r
    pub cells : (is : List ℕ) (z : C) → cell r is ≡ Some z → (x : A) × (y : B) × AreCellsAt is x y × gives x y z

-- The right array broadcasts to the lengths of the left one, and the operation is defined on the left cell and the right one there, at each index list.
pub record CanAssign {A B : Type 0} (can : A → B → Type 0) (g : Grid A) (h : Grid B) : Type 0 where
  pub shapes : BroadcastsTo h.lengths g.lengths
  pub defined : (is : List ℕ) (x : A) (y : B) → is_pair_of_cells g h is (x, y) → can x y

-- The array has the lengths of the left one, and its cell at each index list is what the operation gives on the left cell and the right one there.
pub record Assigns {A B : Type 0} (gives : A → B → A → Type 0) (g : Grid A) (h : Grid B) (new : Grid A) : Type 0 where
  pub lengths : new.lengths ≡ g.lengths
  pub whole : IsGrid new
  pub cells : (is : List ℕ) (z : A) → cell new is ≡ Some z → (x : A) × (y : B) × is_pair_of_cells g h is (x, y) × gives x y z

-- the array has the lengths of another, and its cell at each index list is what the operation gives on the other's
pub record Maps {A C : Type 0} (gives : A → C → Type 0) (g : Grid A) (r : Grid C) : Type 0 where
  pub lengths : r.lengths ≡ g.lengths
  pub whole : IsGrid r
  pub cells : (is : List ℕ) (z : C) → cell r is ≡ Some z → (x : A) × (cell g is ≡ Some x) × gives x z

-- the operation is defined on each cell
abbrev pub CanMap : {A : Type 0} → (A → Type 0) → Grid A → Type 0
CanMap {A} can g = (is : List ℕ) (x : A) → cell g is ≡ Some x → can x

-- The answer of an operation on two arrays is the array, or allocation failure; the array where it has no cell. Its type of dimension has as many axes.
pub record MakesCombined {A B C E : Type 0} (has_axes : ℕ → Type 0) (gives : A → B → C → Type 0) (g : Grid A) (h : Grid B) (r : Result (Grid C) E) : Type 0 where
  pub made : IfOk r (Combines g h gives)
  pub axes : IfOk r (λ c. has_axes (length c.lengths))
  pub empty : size (broadcast_lengths g.lengths h.lengths) ≡ 0 → IsOk r

-- The same of an operation that may use the cells of one of them again: the array too where it has the lengths of that one, and no clone of an element needs memory.
pub record UpdatesCombined {A B C E : Type 0} (has_axes : ℕ → Type 0) (gives : A → B → C → Type 0) (left_infallible : A → Type 0) (right_infallible : B → Type 0) (own : List ℕ) (g : Grid A) (h : Grid B) (r : Result (Grid C) E) : Type 0 where
  pub made : IfOk r (Combines g h gives)
  pub axes : IfOk r (λ c. has_axes (length c.lengths))
  pub empty : size (broadcast_lengths g.lengths h.lengths) ≡ 0 → IsOk r
  pub in_place : broadcast_lengths g.lengths h.lengths ≡ own → ((x : A) → left_infallible x) → ((y : B) → right_infallible y) → IsOk r

-- The answer of an operation on one array, or on one and a scalar, is the array, or allocation failure; the array where it has no cell. Its type of dimension has as many axes.
pub record MakesMapped {A C E : Type 0} (has_axes : ℕ → Type 0) (gives : A → C → Type 0) (g : Grid A) (r : Result (Grid C) E) : Type 0 where
  pub made : IfOk r (Maps gives g)
  pub axes : IfOk r (λ c. has_axes (length c.lengths))
  pub empty : size g.lengths ≡ 0 → IsOk r

-- The same of an operation that uses the array's cells again: the array too where no clone of an element needs memory.
pub record UpdatesMapped {A C E : Type 0} (has_axes : ℕ → Type 0) (gives : A → C → Type 0) (infallible : A → Type 0) (g : Grid A) (r : Result (Grid C) E) : Type 0 where
  pub made : IfOk r (Maps gives g)
  pub axes : IfOk r (λ c. has_axes (length c.lengths))
  pub empty : size g.lengths ≡ 0 → IsOk r
  pub in_place : ((x : A) → infallible x) → IsOk r
