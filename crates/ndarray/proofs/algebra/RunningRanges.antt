-- What may be summed of an array may be summed of the items of its running totals.
use Rattle.std.proofs.Common.{◌≡◌, ◌∙◌, ℕ, ◌+◌, ◌-◌, ◌<◌, ◌≤◌, List, length, map, set, get_or, insert, remove, ap, sym, arith, subst}
use Rattle.std.specs.List.{range_with_len}
use Rattle.std.proofs.lemmas.List.{get_or-set_same, length-set, set-get_or, set-set}
use Rattle.std.proofs.lemmas.List.Edits.{get_or-insert_at, length-remove}
use Rattle.ndarray.specs.Algebra.{CommutativeMonoid}
use Rattle.ndarray.specs.Grid.{Grid, IsGrid, cell}
use Rattle.ndarray.specs.Index.{InBox, row_order}
use Rattle.ndarray.specs.Laws.{lane_totals}
use Rattle.ndarray.specs.ScanLaws.{HasRunningTotals, RunningTotalsStayInRange}
use Rattle.ndarray.specs.Subviews.{lane}
use Rattle.ndarray.specs.Sums.{IsSummable, IsSummableBy, total, total_by}
use Rattle.ndarray.specs.Views.{axis_item, axis_part}
use Rattle.ndarray.proofs.algebra.AxisSums.{cells-values, lane-total, lane_totals-are, lane_totals-summable}
use Rattle.ndarray.proofs.algebra.RangeTotals.{over-same}
use Rattle.ndarray.proofs.algebra.RangesOfParts.{parts-stay}
use Rattle.ndarray.proofs.algebra.RunningTotals.{at, running-at}
use Rattle.ndarray.proofs.algebra.Stacks.{tabulate-whole}
use Rattle.ndarray.proofs.algebra.Totals.{value_of}
use Rattle.ndarray.proofs.boxes.Boxes.{InBox-get, InBox-length, InBox-set_both}
use Rattle.ndarray.proofs.boxes.LaneIndices.{remove-set}
use Rattle.ndarray.proofs.boxes.Orders.{row_order-is}
use Rattle.ndarray.proofs.cells.Cells.{cell-Some, tabulate-cell}
use Rattle.ndarray.proofs.joining.Errors.{set-inserted}
use Rattle.ndarray.proofs.lists.Elements.{map-same}
use Rattle.ndarray.proofs.sums.Selections.{IsSummableBy-map}
use Rattle.ndarray.proofs.views.Items.{InBox-insert}
use Rattle.ndarray.proofs.views.WholeItems.{item-whole}

module _ {A C : Type 0} (M : CommutativeMonoid C) (value : A → C) (axis i : ℕ) (g r : Grid A) (whole : IsGrid g) (lt : axis < length g.lengths) (below : i < get_or g.lengths axis 0) (running : HasRunningTotals M value axis g r) where
  -- how many items there are up to item i, and they
  abbrev many : ℕ
  many = i + 1 - 0

  abbrev front : Grid A
  front = axis_part g axis 0 (i + 1)

  abbrev seen : List ℕ → List ℕ
  seen js = set js axis (0 + get_or js axis 0)

  inside : (js : List ℕ) → InBox (set g.lengths axis many) js → InBox g.lengths (seen js)
  inside js b =
      let long = length-set g.lengths axis many in
      let room = get_or-set_same g.lengths axis many 0 lt in
      let there = InBox-get (set g.lengths axis many) js axis b (omega (arith, long, lt)) in
      subst (λ ns. InBox ns (seen js)) (set-set g.lengths axis many (get_or g.lengths axis 0) ∙ set-get_or g.lengths axis 0)
      (InBox-set_both (set g.lengths axis many) js axis (get_or g.lengths axis 0) (0 + get_or js axis 0) b (omega (arith, there, room, below)))

  front-whole : IsGrid front
  front-whole = tabulate-whole (set g.lengths axis many) (λ js. cell g (seen js)) (λ js b. cell-Some g whole (seen js) (inside js b))

  front-axes : axis < length front.lengths
  front-axes = let long = length-set g.lengths axis many in omega (arith, long, lt)

  module _ (js : List ℕ) (b : InBox (remove g.lengths axis) js) where
    most : axis ≤ length js
    most = let long = InBox-length (remove g.lengths axis) js b in let fewer = length-remove g.lengths axis lt in omega (arith, long, fewer, lt)

    -- the cell that both see along the lane
    same-cell : (q : ℕ) → q < many → at M value g (set (insert js axis i) axis q) ≡ at M value front (insert js axis q)
    same-cell q few =
        let place : List ℕ = insert js axis q in
        let room = get_or-set_same g.lengths axis many 0 lt in
        let here : InBox (set g.lengths axis many) place = InBox-insert (set g.lengths axis many) js axis q front-axes (omega (arith, room, few)) (subst (λ ns. InBox ns js) (sym (remove-set g.lengths axis many)) b) in
        let start : 0 + get_or place axis 0 ≡ get_or place axis 0 = omega arith in
        let own : seen place ≡ place = ap (set place axis) start ∙ set-get_or place axis 0 in
        ap (at M value g) (set-inserted js axis i q most)
        ∙ sym (ap (value_of M value) (tabulate-cell (set g.lengths axis many) (λ ks. cell g (seen ks)) place front-whole here ∙ ap (cell g) own))

    -- the value of the item is the total of the lane of what comes before it
    item-value : at M value (axis_item r axis i) js ≡ total_by M value (lane front axis js).cells
    item-value =
        let now : axis < length r.lengths = subst (λ ns. axis < length ns) (sym running.lengths) lt in
        let few : i < get_or r.lengths axis 0 = subst (λ ns. i < get_or ns axis 0) (sym running.lengths) below in
        let own = get_or-insert_at js axis i 0 most in
        let count : get_or (insert js axis i) axis 0 + 1 ≡ many = omega (arith, own) in
        ap (value_of M value) (tabulate-cell (remove r.lengths axis) (λ ks. cell r (insert ks axis i)) js (item-whole r running.whole axis i now few) (subst (λ ns. InBox (remove ns axis) js) (sym running.lengths) b))
        ∙ (running-at M value axis g r whole lt running (insert js axis i) (InBox-insert g.lengths js axis i lt below b)
        ∙ (ap (λ k. total M (map (λ q. at M value g (set (insert js axis i) axis q)) (range_with_len 0 k))) count
        ∙ (over-same M (λ q. at M value g (set (insert js axis i) axis q)) (λ q. at M value front (insert js axis q)) many same-cell
        ∙ (ap (λ k. total M (map (λ q. at M value front (insert js axis q)) (range_with_len 0 k))) (sym (get_or-set_same g.lengths axis many 0 lt))
        ∙ sym (lane-total M value front axis js)))))

  totals-are : lane_totals M value front axis ≡ map value (axis_item r axis i).cells
  totals-are =
      let now : axis < length r.lengths = subst (λ ns. axis < length ns) (sym running.lengths) lt in
      let few : i < get_or r.lengths axis 0 = subst (λ ns. i < get_or ns axis 0) (sym running.lengths) below in
      let totals = λ (js : List ℕ). total_by M value (lane front axis js).cells in
      lane_totals-are M value front axis front-axes
      ∙ (ap (λ ns. map totals (row_order ns)) (remove-set g.lengths axis many)
      ∙ (sym (map-same (at M value (axis_item r axis i)) totals (InBox (remove g.lengths axis)) (row_order (remove g.lengths axis)) item-value (row_order-is (remove g.lengths axis)).within)
      ∙ (ap (λ ns. map (at M value (axis_item r axis i)) (row_order (remove ns axis))) (sym running.lengths)
      ∙ cells-values M value (axis_item r axis i) (item-whole r running.whole axis i now few))))

  item-in_range : (in_range : C → Type 0) → IsSummableBy M in_range value g.cells → IsSummableBy M in_range value (axis_item r axis i).cells
  item-in_range in_range sums =
      (IsSummableBy-map M value in_range (axis_item r axis i).cells).1
      (subst (IsSummable M in_range) totals-are
      (lane_totals-summable M in_range value front axis front-whole front-axes (parts-stay M in_range value g axis 0 (i + 1) whole lt (omega arith) (omega (arith, below)) sums)))

pub running-stay : {A C : Type 0} (M : CommutativeMonoid C) (in_range : C → Type 0) (value : A → C) → RunningTotalsStayInRange M value in_range
running-stay M in_range value axis i g r whole lt below running sums = item-in_range M value axis i g r whole lt below running in_range sums
