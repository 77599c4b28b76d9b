-- The totals of lanes, where the items along their axis are added one after another.
use Rattle.std.proofs.Common.{◌≡◌, ℕ, ◌+◌, ◌<◌, List, [], ◌∷◌, Some, length, map, drop, get_or, remove, insert, refl, sym, subst, ap, ◌∙◌, arith}
use Rattle.std.specs.Prelude.{slice_get}
use Rattle.std.proofs.Math.Seq.{drop-length}
use Rattle.std.proofs.lemmas.List.{drop_more}
use Rattle.std.proofs.lemmas.List.Edits.{length-remove}
use Rattle.std.proofs.lemmas.Option.{get_or_from_slice_get}
use Rattle.ndarray.specs.Algebra.{CommutativeMonoid}
use Rattle.ndarray.specs.AlongAxis.{IsSummableArray, IsTotalOf}
use Rattle.ndarray.specs.Broadcast.{BroadcastsTo}
use Rattle.ndarray.specs.Elementwise.{Assigns, CanAssign, CanMap, Maps}
use Rattle.ndarray.specs.Grid.{Grid, IsGrid, array_by, cell}
use Rattle.ndarray.specs.Index.{InBox, size}
use Rattle.ndarray.specs.Subviews.{lane, lanes_of}
use Rattle.ndarray.specs.Updates.{is_pair_of_cells}
use Rattle.ndarray.specs.Views.{axis_item, broadcast_to}
use Rattle.ndarray.proofs.boxes.Boxes.{InBox-length}
use Rattle.ndarray.proofs.boxes.Orders.{rank-lt}
use Rattle.ndarray.proofs.callers.Collecting.{array_by-at, lanes_of-some}
use Rattle.ndarray.proofs.cells.Cells.{array_by-cell, array_by-whole, cell-inside, tabulate-cell}
use Rattle.ndarray.proofs.cells.LaneCells.{insert-removed, lane-cell}
use Rattle.ndarray.proofs.cells.LaneSums.{length-of_lane}
use Rattle.ndarray.proofs.lists.Elements.{remove-inserted}
use Rattle.ndarray.proofs.sums.RunningSum.{RunningSum, RunningSum-end, RunningSum-in_range, RunningSum-start, RunningSum-step}
use Rattle.ndarray.proofs.sums.Selections.{IsSummableBy-map, total_by-map}
use Rattle.ndarray.proofs.views.BroadcastLengths.{broadcasts-itself}
use Rattle.ndarray.proofs.views.Items.{InBox-insert}
use Rattle.ndarray.proofs.views.OwnLengths.{broadcast_to-own}

module _ {A C : Type 0} (M : CommutativeMonoid C) (P : C → Type 0) (v : A → C) (g : Grid A) (k : ℕ) where
  -- At each index list of the other axes the array has what the first n cells of the lane there add up to, and the others can be added to it.
  pub record AddedItems (n : ℕ) (r : Grid A) : Type 0 where
    pub lengths : r.lengths ≡ remove g.lengths k
    pub whole : IsGrid r
    pub sums : (js : List ℕ) (z : A) → cell r js ≡ Some z → RunningSum M P (map v (lane g k js).cells) (map v (drop n (lane g k js).cells)) (v z)

module _ {A C : Type 0} (M : CommutativeMonoid C) (P : C → Type 0) (v : A → C) (g : Grid A) (k : ℕ) (whole : IsGrid g) (lt : k < length g.lengths) where
  module _ (js : List ℕ) (b : InBox (remove g.lengths k) js) where
    among : cell (lanes_of g k) js ≡ Some (lane g k js)
    among = ap (λ w. cell w js) (lanes_of-some g.lengths g k (omega arith)) ∙ array_by-cell (remove g.lengths k) (lane g k) js b

    -- the cell of item n is that of the lane at n
    module _ (n : ℕ) (below : n < get_or g.lengths k 0) where
      in-lane : slice_get (lane g k js).cells n ≡ cell g (insert js k n)
      in-lane =
          let is : List ℕ = insert js k n in
          let c : InBox g.lengths is = InBox-insert g.lengths js k n lt below b in
          let l = InBox-length g.lengths is c in
          let back : remove is k ≡ js = remove-inserted js k n (let m = InBox-length (remove g.lengths k) js b in let r : length (remove g.lengths k) + 1 ≡ length g.lengths = length-remove g.lengths k lt in omega (arith, m, r, lt)) in
          ap (λ ls. slice_get (lane g k ls).cells n) (sym back)
          ∙ (lane-cell g whole k lt is c n below ∙ ap (cell g) (sym (insert-removed is k n (omega (arith, l))) ∙ ap (λ ls. insert ls k n) back))

      lane-next : (item : Grid A) → IsGrid item → item ≡ axis_item g k n → (y : A) → cell item js ≡ Some y → drop n (lane g k js).cells ≡ y ∷ drop (n + 1) (lane g k js).cells
      lane-next item item_whole is_item y e =
          let l = length-of_lane g whole k lt js b in
          let at : slice_get (lane g k js).cells n ≡ Some y =
          in-lane ∙ (sym (tabulate-cell (remove g.lengths k) (λ is. cell g (insert is k n)) js (subst IsGrid is_item item_whole) b) ∙ (ap (λ w. cell w js) (sym is_item) ∙ e)) in
          drop_more (lane g k js).cells n y (omega (arith, l)) ∙ ap (λ x. x ∷ drop (n + 1) (lane g k js).cells) (get_or_from_slice_get (lane g k js).cells n y y at)

  -- totals of no items
  pub items-start : CanMap (IsSummableArray M P v) (lanes_of g k) → (r : Grid A) (u : A) → v u ≡ M.unit → r ≡ array_by (remove g.lengths k) (λ _. u) → AddedItems M P v g k 0 r
  items-start can r u unit e = record {
    lengths = ap (λ w. w.lengths) e;
    whole = subst IsGrid (sym e) (array_by-whole (remove g.lengths k) (λ _. u));
    sums = λ js z at.
        let b : InBox r.lengths js = cell-inside r js z at in
        let l : List A = (lane g k js).cells in
        let same : z ≡ u = array_by-at (remove g.lengths k) (λ _. u) r js z e b at in
        RunningSum-start M P (map v l) (map v l) (v z) refl (ap v same ∙ unit)
        ((IsSummableBy-map M v P l).0 (can js (lane g k js) (among js (subst (λ w. InBox w.lengths js) e b))));
  }

  -- item n is next
  module _ (n : ℕ) (below : n < get_or g.lengths k 0) (item : Grid A) (item_whole : IsGrid item) (is_item : item ≡ axis_item g k n) (r : Grid A) (h : AddedItems M P v g k n r) where
    same : item.lengths ≡ r.lengths
    same = ap (λ w. w.lengths) is_item ∙ sym h.lengths

    next-cells : (js : List ℕ) (x y : A) → is_pair_of_cells r item js (x, y) → map v (drop n (lane g k js).cells) ≡ v y ∷ map v (drop (n + 1) (lane g k js).cells)
    next-cells js x y p =
        let b : InBox (remove g.lengths k) js = subst (λ ns. InBox ns js) h.lengths (cell-inside r js x p.0) in
        let own : broadcast_to item r.lengths ≡ item = ap (broadcast_to item) (sym same) ∙ broadcast_to-own item item_whole in
        ap (map v) (lane-next js b n below item item_whole is_item y (ap (λ w. cell w js) (sym own) ∙ p.1))

    pub item-fits : CanAssign (λ x y. P (M.op (v x) (v y))) r item
    item-fits = record {
      shapes = subst (BroadcastsTo item.lengths) same (broadcasts-itself item.lengths);
      defined = λ js x y p. RunningSum-in_range M P (map v (lane g k js).cells) (map v (drop n (lane g k js).cells)) (map v (drop (n + 1) (lane g k js).cells)) (v y) (v x) (next-cells js x y p) (h.sums js x p.0);
    }

    pub items-next : (new : Grid A) → Assigns (λ x y z. v z ≡ M.op (v x) (v y)) r item new → AddedItems M P v g k (n + 1) new
    items-next new a = record {
      lengths = a.lengths ∙ h.lengths;
      whole = a.whole;
      sums = λ js z e.
          let (x, y, p, given) = a.cells js z e in
          RunningSum-step M P (map v (lane g k js).cells) (map v (drop n (lane g k js).cells)) (map v (drop (n + 1) (lane g k js).cells)) (v y) (v x) (next-cells js x y p) (h.sums js x p.0) (v z) given;
    }

  totals-of : (r : Grid A) → IsGrid r → r.lengths ≡ remove g.lengths k → ((js : List ℕ) (z : A) → InBox (remove g.lengths k) js → cell r js ≡ Some z → IsTotalOf M v (lane g k js) z) → Maps (IsTotalOf M v) (lanes_of g k) r
  totals-of r r_whole e each = record {
    lengths = e ∙ sym (ap (λ w. w.lengths) (lanes_of-some g.lengths g k (omega arith)));
    whole = r_whole;
    cells = λ js z at. let b = subst (λ ns. InBox ns js) e (cell-inside r js z at) in (lane g k js, among js b, each js z b at);
  }

  -- after the last item
  pub items-end : (n : ℕ) → n ≡ get_or g.lengths k 0 → (r : Grid A) → AddedItems M P v g k n r → Maps (IsTotalOf M v) (lanes_of g k) r
  items-end n all r h = totals-of r h.whole h.lengths
      (λ js z b at.
      let l : List A = (lane g k js).cells in
      let long = length-of_lane g whole k lt js b in
      let none : drop n l ≡ [] = ap (λ m. drop m l) (all ∙ sym long) ∙ drop-length l in
      RunningSum-end M P (map v l) (map v (drop n l)) (v z) (ap (map v) none) (h.sums js z at) ∙ sym (total_by-map M v l))

  -- where there are no totals, items are left out
  pub items-none : (n : ℕ) (r : Grid A) → size r.lengths ≡ 0 → AddedItems M P v g k n r → Maps (IsTotalOf M v) (lanes_of g k) r
  items-none n r none h = totals-of r h.whole h.lengths (λ js z b at. let below = rank-lt r.lengths js (cell-inside r js z at) in absurd (omega arith))
