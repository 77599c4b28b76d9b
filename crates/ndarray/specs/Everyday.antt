-- Arrays of what a function gives at each cell, and whether two arrays are the same by a test of their elements.
use Rattle.std.specs.Prelude.{◌≡◌, ℕ, Bool, ◌&&◌, List, [], ◌∷◌, map, nat_eq, remove, Some}
use Rattle.std.specs.Cmp.Lexicographic.{pointwise}
use Rattle.std.specs.Fn.{Shared}
use denote.Ref.{Bor, MutBor}
use Rattle.ndarray.specs.Grid.{Grid, IsGrid, array_by, cell, grid}
use Rattle.ndarray.specs.Subviews.{lane}

-- h of each cell
abbrev pub mapped : {A B : Type 0} → (A → B) → Grid A → Grid B
mapped h g = grid g.lengths (map h g.cells)

-- h of each lane along an axis: an array without that axis
abbrev pub lanes_mapped : {A B : Type 0} → (Grid A → B) → Grid A → ℕ → Grid B
lanes_mapped h g axis = array_by (remove g.lengths axis) (λ js. h (lane g axis js))

-- h of the elements of two lists, side by side
abbrev pub map_two : {A B C : Type 0} → (A → B → C) → List A → List B → List C
map_two h [] ys = []
map_two h (x ∷ xs) [] = []
map_two h (x ∷ xs) (y ∷ ys) = h x y ∷ map_two h xs ys

-- h of the two cells at each index list of two arrays of one shape
abbrev pub combined : {A B C : Type 0} → (A → B → C) → Grid A → Grid B → Grid C
combined h g k = grid g.lengths (map_two h g.cells k.cells)

-- the operation is defined on the two cells at each index list of two arrays of one shape
abbrev pub CanMapTwo : {A B : Type 0} → (A → B → Type 0) → Grid A → Grid B → Type 0
CanMapTwo {A} {B} can g k = (is : List ℕ) (x : A) (y : B) → cell g is ≡ Some x → cell k is ≡ Some y → can x y

-- the array has the lengths of two others, and its cell at each index list is what the operation gives on the two cells there
pub record MapsTwo {A B C : Type 0} (gives : A → B → C → Type 0) (g : Grid A) (k : Grid B) (r : Grid C) : Type 0 where
  pub lengths : r.lengths ≡ g.lengths
  pub whole : IsGrid r
  pub cells : (is : List ℕ) (z : C) → cell r is ≡ Some z → (x : A) × (y : B) × (cell g is ≡ Some x) × (cell k is ≡ Some y) × gives x y z

-- the lengths are the same, and the test answers `true` at the two cells at each index list
abbrev pub same_arrays : {A : Type 0} → (A → A → Bool) → Grid A → Grid A → Bool
same_arrays eq g k = pointwise nat_eq g.lengths k.lengths && pointwise eq g.cells k.cells

-- Calls of a closure that no call changes. Of two elements, the second one is only read.
module _ {F A B R : Type 0} (g : Shared F (Bor A × (Bor B × Unit {0})) R) where
  -- it may be called at references to x and y
  abbrev pub TakesAtBoth : F → A → B → Type 0
  TakesAtBoth f x y = (p : Bor A) (q : Bor B) → p.now ≡ x → q.now ≡ y → g.pre f (p, (q, tt))

  -- it may return r there
  pub record ReturnsAtBoth (f : F) (x : A) (y : B) (r : R) : Type 0 where
    pub first : Bor A
    pub second : Bor B
    pub shows : (first.now ≡ x) × (second.now ≡ y)
    pub met : g.post f (first, (second, tt)) r

module _ {F A : Type 0} (g : Shared F (MutBor A × Unit {0}) (Unit {0} × (MutBor A × Unit {0}))) where
  -- it may be called at a `&mut` to x
  abbrev pub TakesToWrite : F → A → Type 0
  TakesToWrite f x = (p : MutBor A) → p.now ≡ x → g.pre f (p, tt)

  -- it may leave z there
  pub record Leaves (f : F) (x z : A) : Type 0 where
    pub shown : MutBor A
    pub left : MutBor A
    pub shows : shown.now ≡ x
    pub leaves : left.now ≡ z
    pub met : g.post f (shown, tt) (tt, (left, tt))

module _ {F A B : Type 0} (g : Shared F (MutBor A × (Bor B × Unit {0})) (Unit {0} × (MutBor A × Unit {0}))) where
  -- it may be called at a `&mut` to x and a reference to y
  abbrev pub TakesToWriteBeside : F → A → B → Type 0
  TakesToWriteBeside f x y = (p : MutBor A) (q : Bor B) → p.now ≡ x → q.now ≡ y → g.pre f (p, (q, tt))

  -- it may leave z in the place of x
  pub record LeavesBeside (f : F) (x : A) (y : B) (z : A) : Type 0 where
    pub shown : MutBor A
    pub read : Bor B
    pub left : MutBor A
    pub shows : (shown.now ≡ x) × (read.now ≡ y)
    pub leaves : left.now ≡ z
    pub met : g.post f (shown, (read, tt)) (tt, (left, tt))
