-- The sums that were made along an axis: they may be added, and give the sum of all cells.
use Rattle.std.proofs.Common.{◌≡◌, ◌∙◌, ℕ, ◌<◌, List, length, map, ap, sym, arith, subst, remove}
use Rattle.ndarray.specs.Algebra.{CommutativeMonoid}
use Rattle.ndarray.specs.AlongAxis.{IsTotalOf}
use Rattle.ndarray.specs.Elementwise.{Maps}
use Rattle.ndarray.specs.Grid.{Grid, IsGrid, cell}
use Rattle.ndarray.specs.Index.{InBox, row_order}
use Rattle.ndarray.specs.Subviews.{lane, lanes_of}
use Rattle.ndarray.specs.Sums.{IsSummable, IsSummableBy, total, total_by}
use Rattle.ndarray.proofs.boxes.Orders.{row_order-is}
use Rattle.ndarray.proofs.callers.Collecting.{lanes_of-some}
use Rattle.ndarray.proofs.callers.Lanes.{lane-maps}
use Rattle.ndarray.proofs.cells.Cells.{cell-Some}
use Rattle.ndarray.proofs.lists.Elements.{map-same}
use Rattle.ndarray.proofs.sums.Selections.{IsSummableBy-map, total_by-map}
use Rattle.ndarray.specs.Laws.{AxisSumArraysAddUp, lane_totals}
use Rattle.ndarray.proofs.algebra.AxisSums.{axis_sums, cells-values, lane_totals-are, lane_totals-summable}
use Rattle.ndarray.proofs.algebra.Totals.{value_of}

module _ {A C : Type 0} (M : CommutativeMonoid C) (value : A → C) (g : Grid A) (whole : IsGrid g) (axis : ℕ) (lt : axis < length g.lengths) (r : Grid A) (made : Maps (IsTotalOf M value) (lanes_of g axis) r) where
  -- their values are the totals of the lanes
  pub sums-are : map value r.cells ≡ lane_totals M value g axis
  sums-are =
      let ms : List ℕ = remove g.lengths axis in
      let e : r.lengths ≡ ms = made.lengths ∙ ap (λ w. w.lengths) (lanes_of-some g.lengths g axis (omega arith)) in
      sym (cells-values M value r made.whole)
      ∙ (map-same (λ js. value_of M value (cell r js)) (λ js. total_by M value (lane g axis js).cells) (InBox r.lengths) (row_order r.lengths)
      (λ js b.
      let (z, at) = cell-Some r made.whole js b in
      ap (value_of M value) at ∙ lane-maps g axis (omega arith) (IsTotalOf M value) r made js z at)
      (row_order-is r.lengths).within
      ∙ (ap (λ ks. map (λ js. total_by M value (lane g axis js).cells) (row_order ks)) e
      ∙ sym (lane_totals-are M value g axis lt)))

  pub sums-total : total_by M value r.cells ≡ total_by M value g.cells
  sums-total = total_by-map M value r.cells ∙ (ap (total M) sums-are ∙ sym (axis_sums M value g axis whole lt))

  pub sums-summable : (in_range : C → Type 0) → IsSummableBy M in_range value g.cells → IsSummableBy M in_range value r.cells
  sums-summable in_range h = (IsSummableBy-map M value in_range r.cells).1 (subst (IsSummable M in_range) (sym sums-are) (lane_totals-summable M in_range value g axis whole lt h))

pub axis_sum_arrays : {A C : Type 0} (M : CommutativeMonoid C) (in_range : C → Type 0) (value : A → C) → AxisSumArraysAddUp M in_range value
axis_sum_arrays M in_range value g r axis whole lt made = (sums-total M value g whole axis lt r made, sums-summable M value g whole axis lt r made in_range)
