-- The totals of the lanes along an axis.
use Rattle.std.proofs.Common.{◌≡◌, ◌∙◌, ℕ, zero, suc, ◌<◌, Bool, true, false, if◌then◌else◌, List, [], ◌∷◌, length, map, get_or, Some, ap, sym, arith, subst, insert, remove}
use Rattle.std.specs.List.{range_with_len}
use Rattle.std.proofs.lemmas.List.{get_or_default}
use Rattle.std.proofs.lemmas.List.Edits.{length-remove}
use Rattle.std.proofs.lemmas.Simd.{map-map}
use Rattle.ndarray.specs.Algebra.{CommutativeMonoid}
use Rattle.ndarray.specs.Grid.{Grid, IsGrid, cell, cells_by}
use Rattle.ndarray.specs.Index.{InBox, row_order}
use Rattle.ndarray.specs.Subviews.{lane}
use Rattle.ndarray.specs.Sums.{select, total, total_by}
use Rattle.ndarray.specs.base.Ranks.{rank}
use Rattle.ndarray.specs.declared.base.shape.Order.TheVariants.{RowMajor}
use Rattle.ndarray.proofs.boxes.Boxes.{InBox-length}
use Rattle.ndarray.proofs.boxes.Orders.{box_in-is, length-row_order, row_order-back, row_order-is, row_order-one}
use Rattle.ndarray.proofs.callers.Collecting.{lanes_of-some}
use Rattle.ndarray.proofs.cells.Cells.{along-row_order, cells_in-HasInOrder}
use Rattle.ndarray.proofs.lists.Elements.{map-same, remove-inserted}
use Rattle.ndarray.proofs.sums.Selections.{IsSummableBy-map}
use Rattle.ndarray.specs.Laws.{AxisSumsAddUp, AxisSumsStayInRange, lane_totals}
use Rattle.ndarray.proofs.algebra.Totals.{total-flat, total-same, total-selected, total-swap, total-units, total_by-filter_map, value_of, values-full}

module _ {C : Type 0} (M : CommutativeMonoid C) where
  -- the total over a box is the total over its first axis of the totals over the rest
  pub box-cons : (v : List ℕ → C) (n : ℕ) (ns : List ℕ) → total M (map v (row_order (n ∷ ns))) ≡ total M (map (λ k. total M (map (λ is. v (k ∷ is)) (row_order ns))) (range_with_len 0 n))
  unfolding row_order
  box-cons v n ns =
      total-flat M v (λ k. map (λ is. k ∷ is) (row_order ns)) (range_with_len 0 n)
      ∙ total-same M (λ k. total M (map v (map (λ is. k ∷ is) (row_order ns)))) (λ k. total M (map (λ is. v (k ∷ is)) (row_order ns))) (range_with_len 0 n)
      (λ k. ap (total M) (map-map v (λ is. k ∷ is) (row_order ns)))

  -- the total over a box is that over the box without an axis of the totals along the axis
  pub box-axis : (v : List ℕ → C) (ns : List ℕ) (axis : ℕ) → axis < length ns
      → total M (map v (row_order ns)) ≡ total M (map (λ js. total M (map (λ i. v (insert js axis i)) (range_with_len 0 (get_or ns axis 0)))) (row_order (remove ns axis)))
  box-axis v [] axis lt = absurd (omega arith)
  box-axis v (n ∷ ns) zero lt = box-cons v n ns ∙ total-swap M (λ k is. v (k ∷ is)) (range_with_len 0 n) (row_order ns)
  box-axis v (n ∷ ns) (suc axis) lt =
      box-cons v n ns
      ∙ (total-same M _ _ (range_with_len 0 n) (λ k. box-axis (λ is. v (k ∷ is)) ns axis (omega arith))
      ∙ sym (box-cons (λ js. total M (map (λ i. v (insert js (suc axis) i)) (range_with_len 0 (get_or ns axis 0)))) n (remove ns axis)))

module _ {A C : Type 0} (M : CommutativeMonoid C) (value : A → C) (g : Grid A) where
  -- the value at an index list, and the neutral value outside the box
  abbrev at : List ℕ → C
  at is = value_of M value (cell g is)

  pub lane-total : (axis : ℕ) (js : List ℕ) → total_by M value (lane g axis js).cells ≡ total M (map (λ i. at (insert js axis i)) (range_with_len 0 (get_or g.lengths axis 0)))
  unfolding cells_by
  lane-total axis js =
      total_by-filter_map M value (λ is. cell g (insert js axis (get_or is 0 0))) (row_order (get_or g.lengths axis 0 ∷ []))
      ∙ (ap (λ l. total M (map (λ is. at (insert js axis (get_or is 0 0))) l)) (row_order-one (get_or g.lengths axis 0))
      ∙ ap (total M) (map-map (λ is. at (insert js axis (get_or is 0 0))) (λ k. k ∷ []) (range_with_len 0 (get_or g.lengths axis 0))))

  pub lane_totals-are : (axis : ℕ) → axis < length g.lengths → lane_totals M value g axis ≡ map (λ js. total_by M value (lane g axis js).cells) (row_order (remove g.lengths axis))
  lane_totals-are axis lt =
      ap (λ w. map (λ l. total_by M value l.cells) w.cells) (lanes_of-some g.lengths g axis (omega arith))
      ∙ map-map (λ l. total_by M value l.cells) (lane g axis) (row_order (remove g.lengths axis))

  module _ (whole : IsGrid g) where
    pub cells-total : total_by M value g.cells ≡ total M (map at (row_order g.lengths))
    cells-total = ap (total_by M value) (sym (along-row_order g whole)) ∙ total_by-filter_map M value (cell g) (row_order g.lengths)

    pub cells-values : map at (row_order g.lengths) ≡ map value g.cells
    cells-values = values-full M value (cell g) (row_order g.lengths) g.cells
        (cells_in-HasInOrder RowMajor g whole (row_order g.lengths) (box_in-is RowMajor g.lengths) ∙ ap (map Some) (along-row_order g whole))

pub axis_sums : {A C : Type 0} (M : CommutativeMonoid C) (value : A → C) → AxisSumsAddUp M value
axis_sums M value g axis whole lt =
    cells-total M value g whole
    ∙ (box-axis M (at M value g) g.lengths axis lt
    ∙ (total-same M _ _ (row_order (remove g.lengths axis)) (λ js. sym (lane-total M value g axis js))
    ∙ ap (total M) (sym (lane_totals-are M value g axis lt))))

module _ {A C : Type 0} (M : CommutativeMonoid C) (value : A → C) (g : Grid A) (whole : IsGrid g) (axis : ℕ) (lt : axis < length g.lengths) (keep : ℕ → Bool) where
  -- whether the lane at an index list of the other axes is kept
  abbrev kept : List ℕ → Bool
  kept js = keep (rank (remove g.lengths axis) js)

  -- and with it each index list on the lane
  abbrev kept_cells : ℕ → Bool
  kept_cells p = kept (remove (get_or (row_order g.lengths) p []) axis)

  abbrev kept_value : List ℕ → C
  kept_value is = if kept (remove is axis) then at M value g is else M.unit

  kept-lane : (js : List ℕ) → InBox (remove g.lengths axis) js
      → (if kept js then total_by M value (lane g axis js).cells else M.unit) ≡ total M (map (λ i. kept_value (insert js axis i)) (range_with_len 0 (get_or g.lengths axis 0)))
  kept-lane js b =
      let long = InBox-length (remove g.lengths axis) js b in
      let less = length-remove g.lengths axis lt in
      either (kept js)
      ∙ total-same M (λ i. if kept js then at M value g (insert js axis i) else M.unit) (λ i. kept_value (insert js axis i)) (range_with_len 0 (get_or g.lengths axis 0))
      (λ i. ap (λ ks. if kept ks then at M value g (insert js axis i) else M.unit) (sym (remove-inserted js axis i (omega (arith, long, less, lt)))))
    where
      either : (b : Bool) → (if b then total_by M value (lane g axis js).cells else M.unit) ≡ total M (map (λ i. if b then at M value g (insert js axis i) else M.unit) (range_with_len 0 (get_or g.lengths axis 0)))
      either true = lane-total M value g axis js
      either false = sym (total-units M (range_with_len 0 (get_or g.lengths axis 0)))

  -- a selection of the lanes has the total of the selection of all their cells
  pub selected-lanes : total M (select keep (lane_totals M value g axis)) ≡ total M (select kept_cells (map value g.cells))
  selected-lanes =
      let few = length-row_order (remove g.lengths axis) in
      ap (λ l. total M (select keep l)) (lane_totals-are M value g axis lt)
      ∙ (total-selected M (λ js. total_by M value (lane g axis js).cells) kept (row_order (remove g.lengths axis)) keep
      (λ k d h. ap keep (row_order-back (remove g.lengths axis) k d (omega (arith, few, h))).1)
      ∙ (ap (total M) (map-same _ _ (InBox (remove g.lengths axis)) (row_order (remove g.lengths axis)) kept-lane (row_order-is (remove g.lengths axis)).within)
      ∙ (sym (box-axis M kept_value g.lengths axis lt)
      ∙ (sym (total-selected M (at M value g) (λ is. kept (remove is axis)) (row_order g.lengths) kept_cells
      (λ k d h. ap (λ is. kept (remove is axis)) (get_or_default (row_order g.lengths) k d [] h)))
      ∙ ap (λ l. total M (select kept_cells l)) (cells-values M value g whole)))))

pub lane_totals-summable : {A C : Type 0} (M : CommutativeMonoid C) (in_range : C → Type 0) (value : A → C) → AxisSumsStayInRange M in_range value
lane_totals-summable M in_range value g axis whole lt h keep =
    subst in_range (sym (selected-lanes M value g whole axis lt keep)) ((IsSummableBy-map M value in_range g.cells).0 h (kept_cells M value g whole axis lt keep))
