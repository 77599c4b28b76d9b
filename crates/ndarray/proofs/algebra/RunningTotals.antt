-- Running totals along an axis.
use Rattle.std.proofs.Common.{◌≡◌, ◌∙◌, ℕ, zero, suc, ◌+◌, ◌-◌, ◌<◌, ◌≤◌, List, [], ◌∷◌, length, map, set, get_or, Some, ap, sym, refl, arith, subst, insert, remove, take}
use Rattle.std.specs.Prelude.{slice_get}
use Rattle.std.specs.List.{range_with_len}
use Rattle.std.proofs.lemmas.List.{get_or-set_same, length-set, map-append, set-get_or, set-set}
use Rattle.std.proofs.lemmas.List.Edits.{get_or-insert_at, length-remove}
use Rattle.ndarray.specs.Algebra.{CommutativeMonoid}
use Rattle.ndarray.specs.AlongAxis.{Cumulates, IsTotalOf, one_further}
use Rattle.ndarray.specs.Grid.{Grid, IsGrid, cell}
use Rattle.ndarray.specs.Index.{InBox}
use Rattle.ndarray.specs.ScanLaws.{CumulatesLeaveRunningTotals, DifferencesGiveBack, HasRunningTotals, LastItemHasTotals}
use Rattle.ndarray.specs.Subviews.{lane}
use Rattle.ndarray.specs.Sums.{total, total_by}
use Rattle.ndarray.specs.Views.{axis_item, axis_part}
use Rattle.ndarray.proofs.algebra.AxisSums.{lane-total}
use Rattle.ndarray.proofs.algebra.Totals.{op_unit, total-append, total-same, value_of}
use Rattle.ndarray.proofs.boxes.Boxes.{InBox-get, InBox-length, InBox-set, InBox-set_both}
use Rattle.ndarray.proofs.boxes.LaneIndices.{remove-set}
use Rattle.ndarray.proofs.callers.Collecting.{lanes_of-some}
use Rattle.ndarray.proofs.callers.Lanes.{lane-maps}
use Rattle.ndarray.proofs.cells.Cells.{cell-Some, cell-inside, tabulate-cell}
use Rattle.ndarray.proofs.cells.LaneCells.{lane-cell}
use Rattle.ndarray.proofs.algebra.Stacks.{tabulate-whole}
use Rattle.ndarray.proofs.joining.Errors.{set-inserted}
use Rattle.ndarray.proofs.lists.Ranges.{range-last}
use Rattle.ndarray.proofs.views.Items.{InBox-insert}

module _ {A C : Type 0} (plus : CommutativeMonoid C) (value : A → C) where
  -- the total of the first elements and one more
  pub taken-more : (xs : List A) (k : ℕ) (x : A) → slice_get xs k ≡ Some x → total_by plus value (take (suc k) xs) ≡ plus.op (total_by plus value (take k xs)) (value x)
  taken-more [] k x e = absurd (cc)
  taken-more (y ∷ ys) zero x e = let same : y ≡ x = cc in op_unit plus (value y) ∙ (ap value same ∙ sym (plus.unit_op (value x)))
  taken-more (y ∷ ys) (suc k) x e = ap (plus.op (value y)) (taken-more ys k x e) ∙ sym (plus.associates (value y) (total_by plus value (take k ys)) (value x))

  module _ (g : Grid A) where
    -- the value at an index list, and the neutral value outside the box
    abbrev pub at : List ℕ → C
    at is = value_of plus value (cell g is)

    module _ (whole : IsGrid g) (axis : ℕ) (lt : axis < length g.lengths) (is : List ℕ) (b : InBox g.lengths is) where
      -- the total of the first cells of a lane
      pub taken-lane : (k : ℕ) → k ≤ get_or g.lengths axis 0 → total_by plus value (take k (lane g axis (remove is axis)).cells) ≡ total plus (map (λ q. at (set is axis q)) (range_with_len 0 k))
      taken-lane zero most = refl
      taken-lane (suc k) most =
          let (x, here) = cell-Some g whole (set is axis k) (InBox-set g.lengths is axis k b (omega (arith, most))) in
          let start : 0 + k ≡ k = omega arith in
          taken-more (lane g axis (remove is axis)).cells k x (lane-cell g whole axis lt is b k (omega (arith, most)) ∙ here)
          ∙ (ap (λ t. plus.op t (value x)) (taken-lane k (omega (arith, most)))
          ∙ sym (ap (λ l. total plus (map (λ q. at (set is axis q)) l)) (range-last 0 k)
          ∙ (ap (total plus) (map-append (λ q. at (set is axis q)) (range_with_len 0 k) ((0 + k) ∷ []))
          ∙ (total-append plus (map (λ q. at (set is axis q)) (range_with_len 0 k)) (at (set is axis (0 + k)) ∷ [])
          ∙ ap (plus.op (total plus (map (λ q. at (set is axis q)) (range_with_len 0 k))))
          (op_unit plus (at (set is axis (0 + k))) ∙ ap (value_of plus value) (ap (λ q. cell g (set is axis q)) start ∙ here))))))

  module _ (axis : ℕ) (g r : Grid A) (whole : IsGrid g) (lt : axis < length g.lengths) (running : HasRunningTotals plus value axis g r) where
    -- the value of running totals at an index list of the box
    pub running-at : (is : List ℕ) → InBox g.lengths is → at r is ≡ total plus (map (λ q. at g (set is axis q)) (range_with_len 0 (get_or is axis 0 + 1)))
    running-at is b =
        let (z, here) = cell-Some r running.whole is (subst (λ ns. InBox ns is) (sym running.lengths) b) in
        let below = InBox-get g.lengths is axis b lt in
        ap (value_of plus value) here ∙ (running.cells is z here ∙ taken-lane g whole axis lt is b (get_or is axis 0 + 1) (omega (arith, below)))

  -- ---- what leaves running totals

  module _ (gives : A → A → A → Type 0) (multiplies : (x p z : A) → gives x p z → value z ≡ plus.op (value x) (value p)) (axis : ℕ) (g r : Grid A) (whole : IsGrid g) (lt : axis < length g.lengths) (made : Cumulates gives axis g r) where
    -- the value at each index along the lane through an index list
    cumulated : (is : List ℕ) → InBox g.lengths is → (k : ℕ) (z : A) → k < get_or g.lengths axis 0 → cell r (set is axis k) ≡ Some z → value z ≡ total_by plus value (take (suc k) (lane g axis (remove is axis)).cells)
    cumulated is b zero z below here =
        let long = InBox-length g.lengths is b in
        let (x, there) = cell-Some g whole (set is axis 0) (InBox-set g.lengths is axis 0 b below) in
        let same : z ≡ x = (let first = made.first (set is axis 0) x (get_or-set_same is axis 0 0 (omega (arith, long, lt))) there in cc) in
        ap value same
        ∙ sym (taken-more (lane g axis (remove is axis)).cells 0 x (lane-cell g whole axis lt is b 0 below ∙ there) ∙ plus.unit_op (value x))
    cumulated is b (suc k) z below here =
        let long = InBox-length g.lengths is b in
        let further : one_further axis (set is axis k) ≡ set is axis (suc k) =
        set-set is axis k (get_or (set is axis k) axis 0 + 1) ∙ ap (set is axis) (ap (λ n. n + 1) (get_or-set_same is axis k 0 (omega (arith, long, lt))) ∙ omega arith) in
        let (x, there) = cell-Some g whole (set is axis (suc k)) (InBox-set g.lengths is axis (suc k) b below) in
        let (p, before) = cell-Some r made.whole (set is axis k) (subst (λ ns. InBox ns (set is axis k)) (sym made.lengths) (InBox-set g.lengths is axis k b (omega (arith, below)))) in
        multiplies x p z (made.next (set is axis k) x p z (ap (cell g) further ∙ there) before (ap (cell r) further ∙ here))
        ∙ (plus.commutes (value x) (value p)
        ∙ (ap (λ t. plus.op t (value x)) (cumulated is b k p (omega (arith, below)) before)
        ∙ sym (taken-more (lane g axis (remove is axis)).cells (suc k) x (lane-cell g whole axis lt is b (suc k) below ∙ there))))

    pub cumulate-leaves : HasRunningTotals plus value axis g r
    cumulate-leaves = record {
      lengths = made.lengths;
      whole = made.whole;
      cells = λ is z here.
          let b : InBox g.lengths is = subst (λ ns. InBox ns is) made.lengths (cell-inside r is z here) in
          let more : suc (get_or is axis 0) ≡ get_or is axis 0 + 1 = omega arith in
          cumulated is b (get_or is axis 0) z (InBox-get g.lengths is axis b lt) (ap (cell r) (set-get_or is axis 0) ∙ here)
          ∙ ap (λ n. total_by plus value (take n (lane g axis (remove is axis)).cells)) more;
    }

  -- ---- what they come to

  pub last-item : LastItemHasTotals plus value
  last-item axis g r s whole lt some running sums = record {
    lengths = ap (λ ns. remove ns axis) running.lengths ∙ sym made;
    values = λ js x y here there.
        let b : InBox (remove g.lengths axis) js = subst (λ ns. InBox ns js) made (cell-inside s js y there) in
        let long = InBox-length (remove g.lengths axis) js b in
        let fewer = length-remove g.lengths axis lt in
        let most : axis ≤ length js = omega (arith, long, fewer, lt) in
        let is : List ℕ = insert js axis (n - 1) in
        let inside : InBox g.lengths is = InBox-insert g.lengths js axis (n - 1) lt (omega (arith, some)) b in
        let all : get_or is axis 0 + 1 ≡ n = (let own = get_or-insert_at js axis (n - 1) 0 most in omega (arith, own, some)) in
        let seen : cell r is ≡ Some x = sym (item-cell js (n - 1) b (omega (arith, some))) ∙ here in
        sym (ap (value_of plus value) seen)
        ∙ (running-at axis g r whole lt running is inside
        ∙ (ap (λ k. total plus (map (λ q. at g (set is axis q)) (range_with_len 0 k))) all
        ∙ (total-same plus (λ q. at g (set is axis q)) (λ q. at g (insert js axis q)) (range_with_len 0 n) (λ q. ap (at g) (set-inserted js axis (n - 1) q most))
        ∙ (sym (lane-total plus value g axis js) ∙ sym (lane-maps g axis (omega (arith, lt)) (IsTotalOf plus value) s sums js y there)))));
  }
    where
      n : ℕ
      n = get_or g.lengths axis 0

      made : s.lengths ≡ remove g.lengths axis
      made = sums.lengths ∙ ap (λ w. w.lengths) (lanes_of-some g.lengths g axis (omega (arith, lt)))

      -- the cell of an item along the axis
      item-cell : (js : List ℕ) (i : ℕ) → InBox (remove g.lengths axis) js → i < n → cell (axis_item r axis i) js ≡ cell r (insert js axis i)
      item-cell js i b below =
          let now : axis < length r.lengths = subst (λ ns. axis < length ns) (sym running.lengths) lt in
          let few : i < get_or r.lengths axis 0 = subst (λ ns. i < get_or ns axis 0) (sym running.lengths) below in
          tabulate-cell (remove r.lengths axis) (λ ks. cell r (insert ks axis i)) js
          (tabulate-whole (remove r.lengths axis) (λ ks. cell r (insert ks axis i)) (λ ks inside. cell-Some r running.whole (insert ks axis i) (InBox-insert r.lengths ks axis i now few inside)))
          (subst (λ ns. InBox (remove ns axis) js) (sym running.lengths) b)

  pub differences-give_back : (gives : A → A → A → Type 0) → DifferencesGiveBack plus value gives
  differences-give_back gives cancels subtracts axis g r d whole lt running differs = record {
    lengths = differs.lengths ∙ ap (λ ns. set ns axis (get_or ns axis 0 - 1)) running.lengths;
    values = λ is z w here there.
        let (y, x, further, before, given) = differs.cells is z here in
        let i : ℕ = get_or is axis 0 in
        let inside : InBox g.lengths is = subst (λ ns. InBox ns is) running.lengths (cell-inside r is x before) in
        let long = InBox-length g.lengths is inside in
        let next : InBox g.lengths (set is axis (i + 1)) = subst (λ ns. InBox ns (set is axis (i + 1))) running.lengths (cell-inside r (set is axis (i + 1)) y further) in
        let place = get_or-set_same is axis (i + 1) 0 (omega (arith, long, lt)) in
        let room : i + 1 < n = (let l = InBox-get g.lengths (set is axis (i + 1)) axis next lt in omega (arith, l, place)) in
        let own : cell g (set is axis (i + 1)) ≡ Some w = (let turned : 1 + i ≡ i + 1 = omega arith in sym (ap (λ q. cell g (set is axis q)) turned) ∙ (sym (part-cell is (cell-inside (axis_part g axis 1 n) is w there)) ∙ there)) in
        let here_at : value x ≡ total_by plus value (take (i + 1) (lane g axis (remove is axis)).cells) = running.cells is x before in
        let next_at : value y ≡ total_by plus value (take (suc (i + 1)) (lane g axis (remove is axis)).cells) =
        running.cells (set is axis (i + 1)) y further
        ∙ (let more : get_or (set is axis (i + 1)) axis 0 + 1 ≡ suc (i + 1) = omega (arith, place) in
        ap (λ k. total_by plus value (take k (lane g axis (remove (set is axis (i + 1)) axis)).cells)) more
        ∙ ap (λ js. total_by plus value (take (suc (i + 1)) (lane g axis js).cells)) (remove-set is axis (i + 1))) in
        cancels (value x) (value z) (value w)
        (plus.commutes (value x) (value z)
        ∙ (subtracts y x z given
        ∙ (next_at
        ∙ (taken-more (lane g axis (remove is axis)).cells (i + 1) w (lane-cell g whole axis lt is inside (i + 1) room ∙ own) ∙ ap (λ t. plus.op t (value w)) (sym here_at)))));
  }
    where
      n : ℕ
      n = get_or g.lengths axis 0

      part-cell : (is : List ℕ) → InBox (set g.lengths axis (n - 1)) is → cell (axis_part g axis 1 n) is ≡ cell g (set is axis (1 + get_or is axis 0))
      part-cell is b = tabulate-cell (set g.lengths axis (n - 1)) (λ js. cell g (set js axis (1 + get_or js axis 0))) is (tabulate-whole (set g.lengths axis (n - 1)) (λ js. cell g (set js axis (1 + get_or js axis 0)))
          (λ js inside.
          let many = length-set g.lengths axis (n - 1) in
          let room = get_or-set_same g.lengths axis (n - 1) 0 lt in
          let there = InBox-get (set g.lengths axis (n - 1)) js axis inside (omega (arith, many, lt)) in
          cell-Some g whole (set js axis (1 + get_or js axis 0)) (subst (λ ns. InBox ns (set js axis (1 + get_or js axis 0))) (set-set g.lengths axis (n - 1) n ∙ set-get_or g.lengths axis 0)
          (InBox-set_both (set g.lengths axis (n - 1)) js axis n (1 + get_or js axis 0) inside (omega (arith, there, room))))))
          b

pub cumulates-leave : {A C : Type 0} (plus : CommutativeMonoid C) (value : A → C) (gives : A → A → A → Type 0) → CumulatesLeaveRunningTotals plus value gives
cumulates-leave plus value gives multiplies axis g r whole lt made = cumulate-leaves plus value gives multiplies axis g r whole lt made
