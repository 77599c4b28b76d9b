-- Laws of running totals: what they come to, sums of rectangles, ranges, what leaves them, and what gives the array back.
use Rattle.std.specs.Prelude.{◌≡◌, ℕ, ◌+◌, ◌-◌, ◌<◌, ◌≤◌, List, [], ◌∷◌, length, remove, slice_index, take, Some}
use Rattle.ndarray.specs.Algebra.{CommutativeMonoid}
use Rattle.ndarray.specs.AlongAxis.{Cumulates, IsDifference, IsSummableArray, IsTotalOf}
use Rattle.ndarray.specs.Elementwise.{Maps}
use Rattle.ndarray.specs.Grid.{Grid, IsGrid, cell}
use Rattle.ndarray.specs.Subviews.{lane, lanes_of}
use Rattle.ndarray.specs.Sums.{total_by}
use Rattle.ndarray.specs.Views.{axis_item, axis_part}

-- an equal sum of a value and two others says that these are equal
abbrev pub Cancels : {C : Type 0} → CommutativeMonoid C → Type 0
Cancels {C} plus = (a b c : C) → plus.op a b ≡ plus.op a c → b ≡ c

-- rows from a up to b, and of these the columns from c up to d
abbrev pub rectangle : {A : Type 0} → Grid A → ℕ → ℕ → ℕ → ℕ → Grid A
rectangle g a b c d = axis_part (axis_part g 0 a b) 1 c d

module _ {A C : Type 0} (plus : CommutativeMonoid C) (value : A → C) where
  -- The array has the lengths of g, and its cell at each index list has the total of g's lane along the axis, from the first index up to the one there.
  pub record HasRunningTotals (axis : ℕ) (g r : Grid A) : Type 0 where
    pub lengths : r.lengths ≡ g.lengths
    pub whole : IsGrid r
    pub cells : (is : List ℕ) (z : A) → cell r is ≡ Some z → value z ≡ total_by plus value (take (slice_index is axis + 1) (lane g axis (remove is axis)).cells)

  -- two arrays have the same lengths, and the same value at each index list
  pub record HaveSameValues (g h : Grid A) : Type 0 where
    pub lengths : g.lengths ≡ h.lengths
    pub values : (is : List ℕ) (x y : A) → cell g is ≡ Some x → cell h is ≡ Some y → value x ≡ value y

  -- Of an axis that is not empty, their last item along it has the totals of the lanes, as `sum_axis` and `product_axis` make them
  abbrev pub LastItemHasTotals : Type 0
  LastItemHasTotals = (axis : ℕ) (g r s : Grid A) → IsGrid g → axis < length g.lengths → 0 < slice_index g.lengths axis → HasRunningTotals axis g r
      → Maps (IsTotalOf plus value) (lanes_of g axis) s → HaveSameValues (axis_item r axis (slice_index g.lengths axis - 1)) s

  -- On two axes, the running totals along the rows' axis of those along the other one have at each index list the total of the rectangle up to there.
  abbrev pub AreasAreTotals : Type 0
  AreasAreTotals = (g h r : Grid A) → IsGrid g → length g.lengths ≡ 2 → HasRunningTotals 0 g h → HasRunningTotals 1 h r
      → (i j : ℕ) (z : A) → cell r (i ∷ j ∷ []) ≡ Some z → value z ≡ total_by plus value (rectangle g 0 (i + 1) 0 (j + 1)).cells

  -- the total of a rectangle that begins at row a and column c, and ends before row b and column d, by those of four that begin at the first row and column
  abbrev pub RectanglesAdd : Type 0
  RectanglesAdd = (g : Grid A) → IsGrid g → length g.lengths ≡ 2 → (a b c d : ℕ) → a ≤ b → b ≤ slice_index g.lengths 0 → c ≤ d → d ≤ slice_index g.lengths 1
      → plus.op (plus.op (total_by plus value (rectangle g a b c d).cells) (total_by plus value (rectangle g 0 a 0 d).cells)) (total_by plus value (rectangle g 0 b 0 c).cells)
      ≡ plus.op (total_by plus value (rectangle g 0 b 0 d).cells) (total_by plus value (rectangle g 0 a 0 c).cells)

  -- Where every selection of the array's cells has its total in range, every selection of the cells of each item of the running totals has.
  abbrev pub RunningTotalsStayInRange : (C → Type 0) → Type 0
  RunningTotalsStayInRange in_range = (axis i : ℕ) (g r : Grid A) → IsGrid g → axis < length g.lengths → i < slice_index g.lengths axis → HasRunningTotals axis g r
      → IsSummableArray plus in_range value g → IsSummableArray plus in_range value (axis_item r axis i)

  module _ (gives : A → A → A → Type 0) where
    -- `cumprod` leaves running totals, where multiplication of elements is the operation on their values
    abbrev pub CumulatesLeaveRunningTotals : Type 0
    CumulatesLeaveRunningTotals = ((x p z : A) → gives x p z → value z ≡ plus.op (value x) (value p))
        → (axis : ℕ) (g r : Grid A) → IsGrid g → axis < length g.lengths → Cumulates gives axis g r → HasRunningTotals axis g r

    -- The difference of running totals along the axis has the values of the array without its first item, where subtraction undoes addition, which can be cancelled.
    abbrev pub DifferencesGiveBack : Type 0
    DifferencesGiveBack = Cancels plus → ((y x z : A) → gives y x z → plus.op (value z) (value x) ≡ value y)
        → (axis : ℕ) (g r d : Grid A) → IsGrid g → axis < length g.lengths → HasRunningTotals axis g r → IsDifference gives axis r d
        → HaveSameValues d (axis_part g axis 1 (slice_index g.lengths axis))
