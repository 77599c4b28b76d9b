-- Totals, running products and differences along an axis.
use Rattle.std.specs.Prelude.{◌≡◌, ℕ, zero, suc, ◌+◌, ◌-◌, ◌<◌, ⊤, List, [], ◌∷◌, Some, slice_index, slice_set}
use Rattle.ndarray.specs.Algebra.{CommutativeMonoid}
use Rattle.ndarray.specs.Grid.{Grid, IsGrid, cell}
use Rattle.ndarray.specs.Sums.{IsSummableBy, total_by}

-- the values of every selection of an array's cells have their total in range
abbrev pub IsSummableArray : {A C : Type 0} → CommutativeMonoid C → (C → Type 0) → (A → C) → Grid A → Type 0
IsSummableArray M in_range value g = IsSummableBy M in_range value g.cells

-- the value of z is the total of the values of an array's cells
abbrev pub IsTotalOf : {A C : Type 0} → CommutativeMonoid C → (A → C) → Grid A → A → Type 0
IsTotalOf M value g z = value z ≡ total_by M value g.cells

-- the index list that is one further along the axis
abbrev pub one_further : ℕ → List ℕ → List ℕ
one_further axis is = slice_set is axis (slice_index is axis + 1)

module _ {A : Type 0} (can : A → A → Type 0) (gives : A → A → A → Type 0) where
  -- Each element of the list may be multiplied by the product before it, on its right, of which p is the first.
  abbrev pub CanMultiplyOn : A → List A → Type 0
  CanMultiplyOn p [] = ⊤
  CanMultiplyOn p (x ∷ xs) = can x p × ((r : A) → gives x p r → CanMultiplyOn r xs)

  -- the running products of a list may be formed
  abbrev pub CanCumulate : List A → Type 0
  CanCumulate [] = ⊤
  CanCumulate (x ∷ xs) = CanMultiplyOn x xs

-- The array has the lengths of g; at index 0 along the axis it has g's cell, and one further it has what multiplication gives on g's cell there and its own cell before it.
pub record Cumulates {A : Type 0} (gives : A → A → A → Type 0) (axis : ℕ) (g r : Grid A) : Type 0 where
  pub lengths : r.lengths ≡ g.lengths
  pub whole : IsGrid r
  pub first : (is : List ℕ) (x : A) → slice_index is axis ≡ 0 → cell g is ≡ Some x → cell r is ≡ Some x
  pub next : (is : List ℕ) (x p z : A) → cell g (one_further axis is) ≡ Some x → cell r is ≡ Some p → cell r (one_further axis is) ≡ Some z → gives x p z

module _ {A : Type 0} (gives : A → A → A → Type 0) (axis : ℕ) where
  -- The array is one shorter along the axis than g, and has at each index list what subtraction gives on g's cell one further and g's cell there.
  pub record IsDifference (g r : Grid A) : Type 0 where
    pub lengths : r.lengths ≡ slice_set g.lengths axis (slice_index g.lengths axis - 1)
    pub whole : IsGrid r
    pub cells : (is : List ℕ) (z : A) → cell r is ≡ Some z → (y : A) × (x : A) × (cell g (one_further axis is) ≡ Some y) × (cell g is ≡ Some x) × gives y x z

  -- the difference of order n: the array itself, and of order n + 1 the difference of the one of order n
  abbrev pub IsDifferenceOf : ℕ → Grid A → Grid A → Type 0
  IsDifferenceOf zero g r = r ≡ g
  IsDifferenceOf (suc n) g r = (h : Grid A) × IsDifferenceOf n g h × IsDifference h r

  -- each difference that is taken on the way to order n is defined
  abbrev pub CanDiffer : (A → A → Type 0) → ℕ → Grid A → Type 0
  CanDiffer can n g = (k : ℕ) (h : Grid A) (is : List ℕ) (y x : A) → k < n → IsDifferenceOf k g h → cell h (one_further axis is) ≡ Some y → cell h is ≡ Some x → can y x
