-- Totals of arrays that are added cell by cell, or multiplied by a value.
use Rattle.std.proofs.Common.{◌≡◌, ◌∙◌, ℕ, ◌<◌, List, [], ◌∷◌, length, map, get_or, insert, remove, Option, Some, None, ap, refl, sym, subst, arith}
use Rattle.std.specs.List.{range_with_len}
use Rattle.ndarray.specs.Algebra.{CommutativeMonoid}
use Rattle.ndarray.specs.AlongAxis.{IsTotalOf}
use Rattle.ndarray.specs.Broadcast.{broadcast_lengths}
use Rattle.ndarray.specs.Elementwise.{Maps}
use Rattle.ndarray.specs.Grid.{Grid, IsGrid, cell}
use Rattle.ndarray.specs.Index.{InBox, row_order}
use Rattle.ndarray.specs.Subviews.{lane, lanes_of}
use Rattle.ndarray.specs.SumLaws.{AddsUp, LaneTotalsAdd, MultipliesBy, TotalsAdd}
use Rattle.ndarray.specs.Sums.{total, total_by}
use Rattle.ndarray.specs.Views.{broadcast_to}
use Rattle.ndarray.proofs.algebra.AxisSums.{cells-total, lane-total}
use Rattle.ndarray.proofs.algebra.Totals.{total-plus, total-same, value_of}
use Rattle.ndarray.proofs.callers.Collecting.{lanes_of-some}
use Rattle.ndarray.proofs.callers.Elementwise.{lengths-same}
use Rattle.ndarray.proofs.callers.Lanes.{lane-maps}
use Rattle.ndarray.proofs.cells.Cells.{cell-Some, cell-inside}
use Rattle.ndarray.proofs.views.OwnLengths.{broadcast_to-own}

-- an array without a cell at an index list: one of its lengths has none there
none-there : {A B : Type 0} (g : Grid A) (r : Grid B) → IsGrid r → r.lengths ≡ g.lengths → (is : List ℕ) → cell r is ≡ None → cell g is ≡ None
none-there {A} g r whole e is none = each (cell g is) refl
  where
    each : (o : Option A) → cell g is ≡ o → cell g is ≡ None
    each None h = h
    each (Some x) h =
        let (z, here) = cell-Some r whole is (subst (λ ns. InBox ns is) (sym e) (cell-inside g is x h)) in
        absurd (cc)

module _ {A C : Type 0} (plus : CommutativeMonoid C) (value : A → C) where
  -- the value at an index list, and the neutral value outside the box
  abbrev pub at : Grid A → List ℕ → C
  at g is = value_of plus value (cell g is)

  module _ (g h r : Grid A) (adds : AddsUp plus value g h r) where
    pub lengths-added : r.lengths ≡ g.lengths
    lengths-added = adds.sums.lengths ∙ lengths-same g h adds.left adds.right adds.same

    -- seen at the lengths of both, each is itself
    left-itself : broadcast_to g (broadcast_lengths g.lengths h.lengths) ≡ g
    left-itself = ap (broadcast_to g) (lengths-same g h adds.left adds.right adds.same) ∙ broadcast_to-own g adds.left

    right-itself : broadcast_to h (broadcast_lengths g.lengths h.lengths) ≡ h
    right-itself = ap (broadcast_to h) (lengths-same g h adds.left adds.right adds.same ∙ adds.same) ∙ broadcast_to-own h adds.right

    -- at each index list the sum of the values; outside the box all are neutral
    pub at-sum : (is : List ℕ) → at r is ≡ plus.op (at g is) (at h is)
    at-sum is = each (cell r is) refl
      where
        each : (o : Option A) → cell r is ≡ o → at r is ≡ plus.op (at g is) (at h is)
        each (Some z) here =
            let (x, y, both, sum) = adds.sums.cells is z here in
            let left : cell g is ≡ Some x = sym (ap (λ v. cell v is) left-itself) ∙ both.left in
            let right : cell h is ≡ Some y = sym (ap (λ v. cell v is) right-itself) ∙ both.right in
            ap (value_of plus value) here ∙ (sum ∙ sym (ap (λ t. plus.op (value_of plus value t) (at h is)) left ∙ ap (λ t. plus.op (value x) (value_of plus value t)) right))
        each None here =
            let left = none-there g r adds.sums.whole lengths-added is here in
            let right = none-there h r adds.sums.whole (lengths-added ∙ adds.same) is here in
            ap (value_of plus value) here ∙ (sym (plus.unit_op plus.unit) ∙ sym (ap (λ t. plus.op (value_of plus value t) (at h is)) left ∙ ap (λ t. plus.op plus.unit (value_of plus value t)) right))

    pub totals-added : total_by plus value r.cells ≡ plus.op (total_by plus value g.cells) (total_by plus value h.cells)
    totals-added =
        cells-total plus value r adds.sums.whole
        ∙ (ap (λ ns. total plus (map (at r) (row_order ns))) lengths-added
        ∙ (total-same plus (at r) (λ is. plus.op (at g is) (at h is)) (row_order g.lengths) at-sum
        ∙ (total-plus plus (at g) (at h) (row_order g.lengths)
        ∙ (ap (λ t. plus.op t (total plus (map (at h) (row_order g.lengths)))) (sym (cells-total plus value g adds.left))
        ∙ ap (plus.op (total_by plus value g.cells)) (ap (λ ns. total plus (map (at h) (row_order ns))) adds.same ∙ sym (cells-total plus value h adds.right))))))

    -- of the lanes along an axis at an index list of the others
    pub lane-added : (axis : ℕ) (js : List ℕ)
        → total_by plus value (lane r axis js).cells ≡ plus.op (total_by plus value (lane g axis js).cells) (total_by plus value (lane h axis js).cells)
    lane-added axis js =
        let places = range_with_len 0 (get_or g.lengths axis 0) in
        lane-total plus value r axis js
        ∙ (ap (λ ns. total plus (map (λ i. at r (insert js axis i)) (range_with_len 0 (get_or ns axis 0)))) lengths-added
        ∙ (total-same plus (λ i. at r (insert js axis i)) (λ i. plus.op (at g (insert js axis i)) (at h (insert js axis i))) places (λ i. at-sum (insert js axis i))
        ∙ (total-plus plus (λ i. at g (insert js axis i)) (λ i. at h (insert js axis i)) places
        ∙ (ap (λ t. plus.op t (total plus (map (λ i. at h (insert js axis i)) places))) (sym (lane-total plus value g axis js))
        ∙ ap (plus.op (total_by plus value (lane g axis js).cells))
        (ap (λ ns. total plus (map (λ i. at h (insert js axis i)) (range_with_len 0 (get_or ns axis 0)))) adds.same ∙ sym (lane-total plus value h axis js))))))

  -- an array that was made of the lanes along an axis has the lengths of the other axes
  made-lengths : (g : Grid A) (axis : ℕ) → 0 < length g.lengths → (s : Grid A) → Maps (IsTotalOf plus value) (lanes_of g axis) s → s.lengths ≡ remove g.lengths axis
  made-lengths g axis some s made = made.lengths ∙ ap (λ w. w.lengths) (lanes_of-some g.lengths g axis some)

  -- arrays of the same lengths, of which the third has the sums
  pub adds-up : (g h r : Grid A) → IsGrid g → IsGrid h → IsGrid r → g.lengths ≡ h.lengths → r.lengths ≡ g.lengths
      → ((is : List ℕ) (x y z : A) → cell g is ≡ Some x → cell h is ≡ Some y → cell r is ≡ Some z → value z ≡ plus.op (value x) (value y)) → AddsUp plus value g h r
  adds-up g h r left right whole same lengths each =
      let stretched = lengths-same g h left right same in
      record {
        left = left;
        right = right;
        same = same;
        sums = record {
          lengths = lengths ∙ sym stretched;
          whole = whole;
          cells = λ is z here.
              let b : InBox g.lengths is = subst (λ ns. InBox ns is) lengths (cell-inside r is z here) in
              let (x, there) = cell-Some g left is b in
              let (y, beside) = cell-Some h right is (subst (λ ns. InBox ns is) same b) in (
                x,
                y,
                record {
                  left = ap (λ v. cell v is) (ap (broadcast_to g) stretched ∙ broadcast_to-own g left) ∙ there;
                  right = ap (λ v. cell v is) (ap (broadcast_to h) (stretched ∙ same) ∙ broadcast_to-own h right) ∙ beside;
                },
                each is x y z there beside here,
              );
        };
      }

  pub totals-add : TotalsAdd plus value
  totals-add = totals-added

  pub lane_totals-add : LaneTotalsAdd plus value
  lane_totals-add g h r adds axis lt s t u sums_g sums_h sums_r =
      let own = lengths-added g h r adds in
      let some : 0 < length g.lengths = omega (arith, lt) in
      let some_h : 0 < length h.lengths = subst (λ ns. 0 < length ns) adds.same some in
      let some_r : 0 < length r.lengths = subst (λ ns. 0 < length ns) (sym own) some in
      let left = made-lengths g axis some s sums_g in
      let right = made-lengths h axis some_h t sums_h in
      adds-up s t u sums_g.whole sums_h.whole sums_r.whole (left ∙ (ap (λ ns. remove ns axis) adds.same ∙ sym right)) (made-lengths r axis some_r u sums_r ∙ (ap (λ ns. remove ns axis) own ∙ sym left))
      (λ is x y z here there beside.
      lane-maps r axis some_r (IsTotalOf plus value) u sums_r is z beside
      ∙ (lane-added g h r adds axis is
      ∙ (ap (λ k. plus.op k (total_by plus value (lane h axis is).cells)) (sym (lane-maps g axis some (IsTotalOf plus value) s sums_g is x here))
      ∙ ap (plus.op (value x)) (sym (lane-maps h axis some_h (IsTotalOf plus value) t sums_h is y there)))))

  module _ (times : CommutativeMonoid C)
      (distributes : (x y z : C) → times.op x (plus.op y z) ≡ plus.op (times.op x y) (times.op x z))
      (absorbs : (x : C) → times.op plus.unit x ≡ plus.unit) (factor : C) where
    -- a factor of each value is one of their total
    pub total-multiplied : {X : Type 0} (f : X → C) (xs : List X) → total plus (map (λ x. times.op (f x) factor) xs) ≡ times.op (total plus (map f xs)) factor
    total-multiplied f [] = sym (absorbs factor)
    total-multiplied f (x ∷ xs) =
        ap (plus.op (times.op (f x) factor)) (total-multiplied f xs)
        ∙ (ap (λ t. plus.op t (times.op (total plus (map f xs)) factor)) (times.commutes (f x) factor)
        ∙ (ap (plus.op (times.op factor (f x))) (times.commutes (total plus (map f xs)) factor)
        ∙ (sym (distributes factor (f x) (total plus (map f xs))) ∙ times.commutes factor (plus.op (f x) (total plus (map f xs))))))

    module _ (g r : Grid A) (by : MultipliesBy plus times value factor g r) where
      pub at-product : (is : List ℕ) → at r is ≡ times.op (at g is) factor
      at-product is = each (cell r is) refl
        where
          each : (o : Option A) → cell r is ≡ o → at r is ≡ times.op (at g is) factor
          each (Some z) here =
              let (x, there, product) = by.products.cells is z here in
              ap (value_of plus value) here ∙ (product ∙ ap (λ t. times.op (value_of plus value t) factor) (sym there))
          each None here =
              ap (value_of plus value) here ∙ (sym (absorbs factor) ∙ ap (λ t. times.op (value_of plus value t) factor) (sym (none-there g r by.products.whole by.products.lengths is here)))

      pub totals-multiplied : total_by plus value r.cells ≡ times.op (total_by plus value g.cells) factor
      totals-multiplied =
          cells-total plus value r by.products.whole
          ∙ (ap (λ ns. total plus (map (at r) (row_order ns))) by.products.lengths
          ∙ (total-same plus (at r) (λ is. times.op (at g is) factor) (row_order g.lengths) at-product
          ∙ (total-multiplied (at g) (row_order g.lengths) ∙ ap (λ t. times.op t factor) (sym (cells-total plus value g by.whole)))))

      lane-multiplied : (axis : ℕ) (js : List ℕ) → total_by plus value (lane r axis js).cells ≡ times.op (total_by plus value (lane g axis js).cells) factor
      lane-multiplied axis js =
          let places = range_with_len 0 (get_or g.lengths axis 0) in
          lane-total plus value r axis js
          ∙ (ap (λ ns. total plus (map (λ i. at r (insert js axis i)) (range_with_len 0 (get_or ns axis 0)))) by.products.lengths
          ∙ (total-same plus (λ i. at r (insert js axis i)) (λ i. times.op (at g (insert js axis i)) factor) places (λ i. at-product (insert js axis i))
          ∙ (total-multiplied (λ i. at g (insert js axis i)) places ∙ ap (λ t. times.op t factor) (sym (lane-total plus value g axis js)))))

      pub lane_totals-multiplied : (axis : ℕ) → axis < length g.lengths → (s u : Grid A) → Maps (IsTotalOf plus value) (lanes_of g axis) s → Maps (IsTotalOf plus value) (lanes_of r axis) u
          → MultipliesBy plus times value factor s u
      lane_totals-multiplied axis lt s u sums_g sums_r =
          let some : 0 < length g.lengths = omega (arith, lt) in
          let some_r : 0 < length r.lengths = subst (λ ns. 0 < length ns) (sym by.products.lengths) some in
          let lengths : u.lengths ≡ s.lengths = made-lengths r axis some_r u sums_r ∙ (ap (λ ns. remove ns axis) by.products.lengths ∙ sym (made-lengths g axis some s sums_g)) in
          record {
            whole = sums_g.whole;
            products = record {
              lengths = lengths;
              whole = sums_r.whole;
              cells = λ is z here.
                  let (x, there) = cell-Some s sums_g.whole is (subst (λ ns. InBox ns is) lengths (cell-inside u is z here)) in (
                    x,
                    there,
                    lane-maps r axis some_r (IsTotalOf plus value) u sums_r is z here
                        ∙ (lane-multiplied axis is ∙ ap (λ t. times.op t factor) (sym (lane-maps g axis some (IsTotalOf plus value) s sums_g is x there))),
                  );
            };
          }
