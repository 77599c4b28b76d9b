-- Running totals that `scan_lanes` leaves.
use Rattle.std.proofs.Common.{◌≡◌, ◌∙◌, ℕ, zero, suc, ◌+◌, ◌<◌, List, [], ◌∷◌, ◌++◌, length, get_or, Some, ap, sym, arith, subst, remove, take, append-nil, append_assoc}
use Rattle.std.specs.Prelude.{slice_get, slice_index}
use Rattle.std.specs.List.{FoldsTo}
use Rattle.std.proofs.lemmas.List.{set-get_or}
use Rattle.ndarray.specs.Algebra.{CommutativeMonoid}
use Rattle.ndarray.specs.Grid.{Grid, IsGrid, array_by, cell}
use Rattle.ndarray.specs.Index.{InBox}
use Rattle.ndarray.specs.ScanLaws.{HasRunningTotals}
use Rattle.ndarray.specs.Scans.{ScanStep, ScansLanes}
use Rattle.ndarray.specs.Subviews.{lane}
use Rattle.ndarray.specs.Sums.{total, total_by}
use Rattle.ndarray.proofs.algebra.Totals.{op_unit}
use Rattle.ndarray.proofs.boxes.Boxes.{InBox-get}
use Rattle.ndarray.proofs.callers.Collecting.{array_by-at}
use Rattle.ndarray.proofs.cells.Cells.{array_by-whole, cell-inside}
use Rattle.ndarray.proofs.cells.LaneCells.{lane-among, lane-cell}

-- A closure whose next value is the one that goes along plus the cell's, and which leaves that in the cell.
module _ {A B C : Type 0} (plus : CommutativeMonoid C) (value : A → C) (value_along : B → C) (gives : B → A → B × A → Type 0)
    (adds : (b : B) (x : A) (r : B × A) → gives b x r → (value_along r.0 ≡ plus.op (value_along b) (value x)) × (value r.1 ≡ value_along r.0)) where
  -- what a scan puts behind the elements before, and the value of each of these
  scanned : (xs : List A) (p q : B × List A) → FoldsTo (ScanStep gives) p xs q
      → (ys : List A) × (q.1 ≡ p.1 ++ ys) × ((j : ℕ) (z : A) → slice_get ys j ≡ Some z → value z ≡ plus.op (value_along p.0) (total_by plus value (take (suc j) xs)))
  scanned [] p q f = ([], ap (λ (s : B × List A). s.1) (sym f) ∙ sym (append-nil p.1), λ j z e. absurd (cc))
  scanned (x ∷ xs) p q f =
      let (m, (y, e, g), rest) = f in
      let (ys, made, each) = scanned xs m q rest in
      let (next, left) = adds p.0 x (m.0, y) g in (
        y ∷ ys,
        made ∙ (ap (λ l. l ++ ys) e ∙ append_assoc p.1 (y ∷ []) ys),
        λ j z at. step y ys m next left each j z at,
      )
    where
      step : (y : A) (ys : List A) (m : B × List A) → value_along m.0 ≡ plus.op (value_along p.0) (value x) → value y ≡ value_along m.0
          → ((j : ℕ) (z : A) → slice_get ys j ≡ Some z → value z ≡ plus.op (value_along m.0) (total_by plus value (take (suc j) xs)))
          → (j : ℕ) (z : A) → slice_get (y ∷ ys) j ≡ Some z → value z ≡ plus.op (value_along p.0) (total_by plus value (take (suc j) (x ∷ xs)))
      step y ys m next left each zero z at =
          let same : y ≡ z = cc in
          ap value (sym same) ∙ (left ∙ (next ∙ ap (plus.op (value_along p.0)) (sym (op_unit plus (value x)))))
      step y ys m next left each (suc j) z at =
          each j z at
          ∙ (ap (λ t. plus.op t (total_by plus value (take (suc j) xs))) next ∙ plus.associates (value_along p.0) (value x) (total_by plus value (take (suc j) xs)))

  pub scan-leaves : (axis : ℕ) (init : B) (g r : Grid A) → value_along init ≡ plus.unit → IsGrid g → axis < length g.lengths → ScansLanes gives axis init g r → HasRunningTotals plus value axis g r
  scan-leaves axis init g r neutral whole lt scans = record {
    lengths = scans.lengths;
    whole = scans.whole;
    cells = λ is z here.
        let now : axis < length r.lengths = subst (λ ns. axis < length ns) (sym scans.lengths) lt in
        let b : InBox r.lengths is = cell-inside r is z here in
        let before : InBox g.lengths is = subst (λ ns. InBox ns is) scans.lengths b in
        let i : ℕ = get_or is axis 0 in
        let (last, steps) = scans.lanes (remove is axis) (lane g axis (remove is axis)) (lane r axis (remove is axis)) (lane-among g whole axis lt is before) (lane-among r scans.whole axis now is b) in
        let (ys, made, each) = scanned (lane g axis (remove is axis)).cells (init, []) (last, (lane r axis (remove is axis)).cells) steps in
        let own : slice_get ys i ≡ Some z =
        ap (λ l. slice_get l i) (sym made) ∙ (lane-cell r scans.whole axis now is b i (InBox-get r.lengths is axis b now) ∙ (ap (cell r) (set-get_or is axis 0) ∙ here)) in
        let more : suc i ≡ i + 1 = omega arith in
        each i z own
        ∙ (ap (λ t. plus.op t (total_by plus value (take (suc i) (lane g axis (remove is axis)).cells))) neutral
        ∙ (plus.unit_op (total_by plus value (take (suc i) (lane g axis (remove is axis)).cells)) ∙ ap (λ n. total_by plus value (take n (lane g axis (remove is axis)).cells)) more));
  }

-- An array of such totals, as the lemmas of scans make it.
module _ {C : Type 0} (M : CommutativeMonoid C) (axis : ℕ) (g r : Grid C) where
  pub totals-made : r ≡ array_by g.lengths (λ is. total M (take (slice_index is axis + 1) (lane g axis (remove is axis)).cells)) → HasRunningTotals M (λ x. x) axis g r
  totals-made made = record {
    lengths = ap (λ w. w.lengths) made;
    whole = subst IsGrid (sym made) (array_by-whole g.lengths (λ is. total M (take (slice_index is axis + 1) (lane g axis (remove is axis)).cells)));
    cells = λ is z here. array_by-at g.lengths (λ is. total M (take (slice_index is axis + 1) (lane g axis (remove is axis)).cells)) r is z made (cell-inside r is z here) here;
  }
