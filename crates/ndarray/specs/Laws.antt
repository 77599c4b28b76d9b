-- Laws of arrays: how the definitions of orders, sums, triangles, differences and joined arrays are related.
use Rattle.std.specs.Prelude.{◌≡◌, ◌↔◌, ℕ, ◌+◌, ◌<◌, ◌≤◌, ◌⊎◌, ℤ, pos, ◌-ℤ◌, All, List, length, map, slice_index, IsPermutation, Some, None}
use Rattle.ndarray.specs.Algebra.{CommutativeMonoid}
use Rattle.ndarray.specs.AlongAxis.{CanDiffer, IsDifferenceOf, IsTotalOf}
use Rattle.ndarray.specs.Elementwise.{Maps}
use Rattle.ndarray.specs.Grid.{Grid, IsGrid, cell}
use Rattle.ndarray.specs.Index.{InBox, IsRowOrder, IsColumnOrder, row_order, column_order}
use Rattle.ndarray.specs.Joining.{concatenate_error, concatenation, shapes_of, stack_error, stack_of}
use Rattle.ndarray.specs.Orders.{cells_in}
use Rattle.ndarray.specs.Subviews.{lanes_of}
use Rattle.ndarray.specs.Sums.{IsSummable, IsSummableBy, total, total_by}
use Rattle.ndarray.specs.Triangles.{lower_triangle, upper_triangle}
use Rattle.ndarray.specs.Views.{axis_inserted}
use Rattle.ndarray.specs.declared.base.shape.Order.TheVariants.{ColumnMajor}

-- both lists hold each index list of the box once, in their order, and column order is row order rearranged
abbrev pub ColumnOrderRearranges : Type 0
ColumnOrderRearranges = (ns : List ℕ) → IsRowOrder ns (row_order ns) × IsColumnOrder ns (column_order ns) × IsPermutation (row_order ns) (column_order ns)

-- of a value for each index list, the total over column order is the total over row order
abbrev pub OrdersHaveEqualTotals : {C : Type 0} → CommutativeMonoid C → Type 0
OrdersHaveEqualTotals {C} M = (ns : List ℕ) (f : List ℕ → C) → total M (map f (column_order ns)) ≡ total M (map f (row_order ns))

-- the cells of an array have the same total in column order as in row order
abbrev pub CellsHaveEqualTotals : {A C : Type 0} → CommutativeMonoid C → (A → C) → Type 0
CellsHaveEqualTotals {A} M value = (g : Grid A) → IsGrid g → total_by M value (cells_in ColumnMajor g) ≡ total_by M value g.cells

-- the totals of the lanes along an axis, in row order of the other axes
abbrev pub lane_totals : {A C : Type 0} → CommutativeMonoid C → (A → C) → Grid A → ℕ → List C
lane_totals M value g axis = map (λ l. total_by M value l.cells) (lanes_of g axis).cells

-- the total of all cells is the total of the totals of the lanes along an axis
abbrev pub AxisSumsAddUp : {A C : Type 0} → CommutativeMonoid C → (A → C) → Type 0
AxisSumsAddUp {A} M value = (g : Grid A) (axis : ℕ) → IsGrid g → axis < length g.lengths → total_by M value g.cells ≡ total M (lane_totals M value g axis)

-- where each selection of the cells has its total in range, each selection of the totals of the lanes has
abbrev pub AxisSumsStayInRange : {A C : Type 0} → CommutativeMonoid C → (C → Type 0) → (A → C) → Type 0
AxisSumsStayInRange {A} M in_range value = (g : Grid A) (axis : ℕ) → IsGrid g → axis < length g.lengths → IsSummableBy M in_range value g.cells → IsSummable M in_range (lane_totals M value g axis)

-- the same of an array whose elements have these totals as values, as `sum_axis` makes it: it has the total of all cells, and each selection of it is in range
abbrev pub AxisSumArraysAddUp : {A C : Type 0} → CommutativeMonoid C → (C → Type 0) → (A → C) → Type 0
AxisSumArraysAddUp {A} M in_range value = (g r : Grid A) (axis : ℕ) → IsGrid g → axis < length g.lengths → Maps (IsTotalOf M value) (lanes_of g axis) r
    → (total_by M value r.cells ≡ total_by M value g.cells) × (IsSummableBy M in_range value g.cells → IsSummableBy M in_range value r.cells)

-- at an index list one of two arrays has the cell of g, and the other has zero
abbrev pub IsKeptOnce : {A : Type 0} → A → Grid A → Grid A → Grid A → List ℕ → Type 0
IsKeptOnce zero g upper lower is =
    ((cell upper is ≡ cell g is) × (cell lower is ≡ Some zero)) ⊎ ((cell upper is ≡ Some zero) × (cell lower is ≡ cell g is))

-- two arrays have the lengths of g, and at each index list one of them has its cell, and the other has zero
pub record ArePartsOf {A : Type 0} (zero : A) (g upper lower : Grid A) : Type 0 where
  pub upper_lengths : upper.lengths ≡ g.lengths
  pub lower_lengths : lower.lengths ≡ g.lengths
  pub upper_whole : IsGrid upper
  pub lower_whole : IsGrid lower
  pub once : (is : List ℕ) → InBox g.lengths is → IsKeptOnce zero g upper lower is

-- with two or more axes, the upper triangle from diagonal k on and the lower triangle up to diagonal k - 1 have each cell once between them
abbrev pub TrianglesPart : Type 0 → Type 0
TrianglesPart A = (k : ℤ) (zero : A) (g : Grid A) → IsGrid g → 2 ≤ length g.lengths → ArePartsOf zero g (upper_triangle k zero g) (lower_triangle (k -ℤ pos 1) zero g)

-- where zero has the neutral value, their totals add up to the total of all cells
abbrev pub TriangleSumsAddUp : {A C : Type 0} → CommutativeMonoid C → (A → C) → Type 0
TriangleSumsAddUp {A} M value = (k : ℤ) (zero : A) (g : Grid A) → value zero ≡ M.unit → IsGrid g → 2 ≤ length g.lengths
    → M.op (total_by M value (upper_triangle k zero g).cells) (total_by M value (lower_triangle (k -ℤ pos 1) zero g).cells) ≡ total_by M value g.cells

-- where stacking arrays along a new axis is no error, joining them along that axis, once it is inserted in each, is none, and gives the stack
abbrev pub StackIsConcatenation : Type 0 → Type 0
StackIsConcatenation A = (axis : ℕ) (gs : List (Grid A)) → All IsGrid gs → stack_error axis (shapes_of gs) ≡ None
    → (concatenate_error axis (shapes_of (map (λ g. axis_inserted g axis) gs)) ≡ None) × (stack_of axis gs ≡ concatenation axis (map (λ g. axis_inserted g axis) gs))

-- the difference of order m + n is that of order n of the difference of order m
abbrev pub DifferencesAdd : {A : Type 0} → (A → A → A → Type 0) → Type 0
DifferencesAdd {A} gives = (axis m n : ℕ) (g r : Grid A)
    → IsDifferenceOf gives axis (m + n) g r ↔ ((h : Grid A) × IsDifferenceOf gives axis m g h × IsDifferenceOf gives axis n h r)

-- what `diff` of order n requires: an axis of the array, an order that is 0 or below its length, and that each difference is defined
pub record CanTakeDifference {A : Type 0} (can : A → A → Type 0) (gives : A → A → A → Type 0) (axis n : ℕ) (g : Grid A) : Type 0 where
  pub axis_is : axis < length g.lengths
  pub order : (n ≡ 0) ⊎ (n < slice_index g.lengths axis)
  pub defined : CanDiffer gives axis can n g

-- where it may be called with order m + n, it may be called with order m, and with order n on each result of that
abbrev pub DifferencesCanBeTaken : {A : Type 0} → (A → A → Type 0) → (A → A → A → Type 0) → Type 0
DifferencesCanBeTaken {A} can gives = (axis m n : ℕ) (g : Grid A) → CanTakeDifference can gives axis (m + n) g
    → CanTakeDifference can gives axis m g × ((h : Grid A) → IsDifferenceOf gives axis m g h → CanTakeDifference can gives axis n h)
