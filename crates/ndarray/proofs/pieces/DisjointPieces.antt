-- The pieces of an array that have no place in common, as sub-views to write in.
use Rattle.std.proofs.Common.{◌≡◌, ℕ, ◌+◌, ◌*◌, ◌/◌, ◌<◌, ◌≤◌, suc, zero, List, [], ◌∷◌, length, get_or, Option, refl, sym, ◌∙◌, ap, arith, subst, inl, inr}
use Rattle.std.specs.Prelude.{insert, remove, ⊤}
use Rattle.std.proofs.Math.Nat.{mul-le-mul_right}
use Rattle.std.proofs.lemmas.Bool.{cases_lt}
use Rattle.std.proofs.lemmas.Nat.{div-mul-add}
use Rattle.std.proofs.lemmas.List.Edits.{get_or-insert_at, length-remove}
use Rattle.ndarray.specs.Index.{InBox, row_order, IsBefore}
use Rattle.ndarray.specs.Subviews.{ArePositive, window_index, window_counts}
use Rattle.ndarray.specs.base.Nested.{AreNested, distance, reach, reach_within, sum_over_axes}
use Rattle.ndarray.specs.base.Places.{Reaches}
use Rattle.ndarray.specs.base.Pieces.{AreStepsOf, SharePieces, piece_layout}
use Rattle.ndarray.proofs.boxes.Boxes.{InBox-length}
use Rattle.ndarray.proofs.strides.Distances.{within-near, within-far}
use Rattle.ndarray.proofs.strides.Nesting.{nested-fewer}
use Rattle.ndarray.proofs.strides.NestedMoves.{nested-removed, remove-at}
use Rattle.ndarray.proofs.boxes.Orders.{row_order-is, IsBefore-not_itself}
use Rattle.ndarray.proofs.pieces.Pieces.{AreImages, AreOfLane, items-images, lanes-images, lanes-images_none, remove-none}
use Rattle.ndarray.proofs.regions.Masks.{Shares-images}
use Rattle.ndarray.proofs.pieces.Windows.{length-window_counts, window-fits, windows-images}
use Rattle.ndarray.proofs.strides.SumsOverAxes.{sum_over_axes-one, sum_over_axes-shorter}
use Rattle.ndarray.proofs.lists.Elements.{remove-inserted}

-- where the piece at each position is the array's image by a function, nested strides stay nested, and pieces at two
-- positions have no index list of the array in common
pub record AreApartImages (ns : List ℕ) (start : ℕ) (bs ps : List ℕ) (steps ms cs : List ℕ) (f : List ℕ → List ℕ → List ℕ) : Type 0 where
  pub images : AreImages ns start bs ps steps ms cs f
  pub nested : (p : List ℕ) → InBox ps p → AreNested ns bs → AreNested ms cs
  pub differ : (p q is js : List ℕ) → InBox ps p → InBox ps q → InBox ms is → InBox ms js → f p is ≡ f q js → p ≡ q

pub pieces-share : {ns : List ℕ} {start : ℕ} {bs ps steps ms cs : List ℕ} {f : List ℕ → List ℕ → List ℕ} {A : Type 0} → AreApartImages ns start bs ps steps ms cs f → (at : ℕ → Option A) → Reaches ⊤ at ns start bs → SharePieces at ps start steps ms cs
pieces-share {ns} {start} {bs} {ps} {steps} {ms} {cs} {f} r at h = record {
  as_many = r.images.as_many;
  limit = r.images.limit;
  shares =
      Shares-images at ns start bs h (piece_layout start steps ms cs) f (row_order ps)
      (λ i d lt.
      let b = (row_order-is ps).within i d lt in
      let e = r.images.each _ b in
      record { as_many = e.as_many; limit = e.limit; image = e.image; same = e.same; nested = λ _. r.nested _ b })
      (λ i j d lt lj is js bi bj e.
      let o = row_order-is ps in
      let same = r.differ _ _ is js (o.within i d (omega arith)) (o.within j d lj) bi bj e in
      IsBefore-not_itself _ (subst (λ q. IsBefore q (get_or (row_order ps) j d)) same (o.rising i j d lt lj)));
}

-- ---- items along an axis

items-differ : (ns : List ℕ) (k n : ℕ) → k < length ns → (p q is js : List ℕ) → InBox (n ∷ []) p → InBox (n ∷ []) q → InBox (remove ns k) is → InBox (remove ns k) js → insert is k (get_or p 0 0) ≡ insert js k (get_or q 0 0) → p ≡ q
items-differ ns k n lt [] q is js bp bq bi bj e = absurd bp
items-differ ns k n lt (i ∷ x ∷ p) q is js bp bq bi bj e = absurd bp.1
items-differ ns k n lt (i ∷ []) [] is js bp bq bi bj e = absurd bq
items-differ ns k n lt (i ∷ []) (j ∷ x ∷ q) is js bp bq bi bj e = absurd bq.1
items-differ ns k n lt (i ∷ []) (j ∷ []) is js bp bq bi bj e =
    let l = length-remove ns k lt in
    let li = InBox-length (remove ns k) is bi in
    let lj = InBox-length (remove ns k) js bj in
    let a = get_or-insert_at is k i 0 (omega arith) in
    let b = get_or-insert_at js k j 0 (omega arith) in
    ap (λ x. x ∷ []) (sym a ∙ (ap (λ xs. get_or xs k 0) e ∙ b))

pub items-apart : {A one : Type 0} (at : ℕ → Option A) (ns : List ℕ) (start : ℕ) (bs : List ℕ) (k : ℕ) → Reaches one at ns start bs → k < length ns → AreApartImages ns start bs (get_or ns k 0 ∷ []) (get_or bs k 0 ∷ []) (remove ns k) (remove bs k) (λ p js. insert js k (get_or p 0 0))
items-apart at ns start bs k h lt = record {
  images = items-images at ns start bs k h lt;
  nested = λ p b. nested-removed ns bs k h.as_many lt;
  differ = items-differ ns k (get_or ns k 0) lt;
}

-- ---- lanes along an axis

-- one axis alone has nested strides where it had them among others
nested-alone : (ns bs : List ℕ) (k : ℕ) → length bs ≡ length ns → k < length ns → AreNested ns bs → AreNested (get_or ns k 0 ∷ []) (get_or bs k 0 ∷ [])
unfolding sum_over_axes
nested-alone ns bs k l lt h =
    nested-fewer ns bs (get_or ns k 0 ∷ []) (get_or bs k 0 ∷ []) l refl
    (let t = sum_over_axes-one reach ns bs k l lt in omega (arith, t))
    (λ m. let t = sum_over_axes-one (reach_within m) ns bs k l lt in omega (arith, t))
    (λ j lj _. (k, lt, first-alone ns j k lj, first-alone bs j k lj))
    h
  where
    first-alone : (xs : List ℕ) (j k : ℕ) → j < 1 → get_or (get_or xs k 0 ∷ []) j 0 ≡ get_or xs k 0
    first-alone xs zero k lj = refl
    first-alone xs (suc j) k lj = absurd (omega arith)

lanes-differ : (ns : List ℕ) (k : ℕ) → k < length ns → (p q is js : List ℕ) → InBox (remove ns k) p → InBox (remove ns k) q → insert p k (get_or is 0 0) ≡ insert q k (get_or js 0 0) → p ≡ q
lanes-differ ns k lt p q is js bp bq e =
    let l = length-remove ns k lt in
    let lp = InBox-length (remove ns k) p bp in
    let lq = InBox-length (remove ns k) q bq in
    sym (remove-inserted p k (get_or is 0 0) (omega arith)) ∙ (ap (λ xs. remove xs k) e ∙ remove-inserted q k (get_or js 0 0) (omega arith))

pub lanes-apart : {A one : Type 0} (at : ℕ → Option A) (ns : List ℕ) (start : ℕ) (bs : List ℕ) (k : ℕ) → Reaches one at ns start bs → k < length ns → AreApartImages ns start bs (remove ns k) (remove bs k) (get_or ns k 0 ∷ []) (get_or bs k 0 ∷ []) (λ p is. insert p k (get_or is 0 0))
lanes-apart at ns start bs k h lt = record {
  images = lanes-images at ns start bs k h lt;
  nested = λ p b. nested-alone ns bs k h.as_many lt;
  differ = λ p q is js bp bq bi bj e. lanes-differ ns k lt p q is js bp bq e;
}

-- the one lane of an array of no axes
pub lanes-apart_none : {A one : Type 0} (at : ℕ → Option A) (start stride : ℕ) → Reaches one at [] start [] → AreApartImages [] start [] [] [] (1 ∷ []) (stride ∷ []) (λ p is. [])
unfolding sum_over_axes
lanes-apart_none at start stride h = record {
  images = lanes-images_none at start stride h;
  nested = λ p b n. record { each = λ k lt long. absurd (short k lt long); near = omega arith };
  differ = λ p q is js bp bq bi bj e. both-none p q bp bq;
}
  where
    short : (k : ℕ) → k < 1 → 1 < get_or (1 ∷ []) k 0 → ⊥
    short zero lt long = omega arith
    short (suc k) lt long = omega arith

    both-none : (p q : List ℕ) → InBox [] p → InBox [] q → p ≡ q
    both-none [] [] bp bq = refl
    both-none [] (j ∷ q) bp bq = absurd bq
    both-none (i ∷ p) q bp bq = absurd bp

pub lanes-share : {A : Type 0} (at : ℕ → Option A) (ns : List ℕ) (start : ℕ) (bs : List ℕ) (k len stride : ℕ) → Reaches ⊤ at ns start bs → AreOfLane ns bs k len stride → SharePieces at (remove ns k) start (remove bs k) (len ∷ []) (stride ∷ [])
lanes-share at [] start (b ∷ bs) k len stride h l = let a = h.as_many in absurd (omega arith)
lanes-share at [] start [] k len stride h l =
    elim l [
      | inl q ↦ rw (remove-none k, q.1) (pieces-share (lanes-apart_none at start stride h) at h)
      | inr q ↦ absurd (omega (arith, q.0))
    ]
lanes-share at (n ∷ ns) start bs k len stride h l =
    elim l [
      | inl q ↦ (let none = q.0 in cc)
      | inr q ↦ rw (q.1, q.2) (pieces-share (lanes-apart at (n ∷ ns) start bs k h q.0) at h)
    ]

-- ---- whole chunks

-- a shorter axis reaches no farther
reach-shorter : (w n b : ℕ) → w ≤ n → reach w b ≤ reach n b
reach-shorter w n b le = mul-le-mul_right (distance b) (omega arith)

within-shorter : (m w n b : ℕ) → w ≤ n → reach_within m w b ≤ reach_within m n b
within-shorter m w n b le =
    elim (cases_lt m (distance b)) [
      | inl far ↦ (let e = within-far m w b far in omega (arith, e))
      | inr near ↦ (let e = within-near m w b near in let d = within-near m n b near in let r = reach-shorter w n b le in omega (arith, e, d, r))
    ]

-- strides stay nested where no axis gets longer
nested-shorter : (ns bs ws : List ℕ) → length bs ≡ length ns → length ws ≡ length ns → ((k : ℕ) → k < length ns → get_or ws k 0 ≤ get_or ns k 0) → AreNested ns bs → AreNested ws bs
nested-shorter ns bs ws lb lw le h = record {
  each = λ k lt long.
      let e = h.each k (omega arith) (let a = le k (omega arith) in omega arith) in
      let m : ℕ = distance (get_or bs k 0) in
      let rn = length-remove ns k (omega arith) in
      let rw' = length-remove ws k lt in
      let rb = length-remove bs k (omega arith) in
      let t =
      sum_over_axes-shorter (reach_within m) (remove ws k) (remove ns k) (remove bs k) (omega arith) (omega arith)
      (λ j lj.
      let r = remove-at k j in
      let a = r.1 ns (omega arith) (omega arith) in
      let b = r.1 ws lt (omega arith) in
      within-shorter m _ _ _ (let c = le r.0 a.0 in omega (arith, a.1, b.1, c))) in
      omega (arith, e, t);
  near = let n = h.near in let t = sum_over_axes-shorter reach ws ns bs lb lw (λ k lt. reach-shorter _ _ _ (le k lt)) in omega (arith, n, t);
}

-- positions and indices of whole chunks tell the position
window_index-differ : (ns cs p q is js : List ℕ) → length cs ≡ length ns → InBox ns p → InBox ns q → InBox cs is → InBox cs js → window_index cs p is ≡ window_index cs q js → p ≡ q
window_index-differ [] cs [] [] is js l bp bq bi bj e = refl
window_index-differ [] cs [] (y ∷ q) is js l bp bq bi bj e = absurd bq
window_index-differ [] cs (x ∷ p) q is js l bp bq bi bj e = absurd bp
window_index-differ (n ∷ ns) [] p q is js l bp bq bi bj e = absurd (omega arith)
window_index-differ (n ∷ ns) (c ∷ cs) [] q is js l bp bq bi bj e = absurd bp
window_index-differ (n ∷ ns) (c ∷ cs) (x ∷ p) [] is js l bp bq bi bj e = absurd bq
window_index-differ (n ∷ ns) (c ∷ cs) (x ∷ p) (y ∷ q) [] js l bp bq bi bj e = absurd bi
window_index-differ (n ∷ ns) (c ∷ cs) (x ∷ p) (y ∷ q) (i ∷ is) [] l bp bq bi bj e = absurd bj
window_index-differ (n ∷ ns) (c ∷ cs) (x ∷ p) (y ∷ q) (i ∷ is) (j ∷ js) l bp bq bi bj e =
    let here : x * c + i ≡ y * c + j = cc in
    let there : window_index cs p is ≡ window_index cs q js = cc in
    let a : x ≡ y = sym (div-mul-add x c i bi.0) ∙ (ap (λ z. z / c) here ∙ div-mul-add y c j bj.0) in
    let b = window_index-differ ns cs p q is js (omega arith) bp.1 bq.1 bi.1 bj.1 there in
    cc

-- where there is a window, it is no longer than the array
windows-fit : (ns ws ss p : List ℕ) → length ws ≡ length ns → length ss ≡ length ns → InBox (window_counts ns ws ss) p → (k : ℕ) → k < length ns → get_or ws k 0 ≤ get_or ns k 0
windows-fit [] ws ss p lw ls b k lt = absurd (omega arith)
windows-fit (n ∷ ns) [] ss p lw ls b k lt = absurd (omega arith)
windows-fit (n ∷ ns) (w ∷ ws) [] p lw ls b k lt = absurd (omega arith)
windows-fit (n ∷ ns) (w ∷ ws) (s ∷ ss) [] lw ls b k lt = absurd b
windows-fit (n ∷ ns) (w ∷ ws) (s ∷ ss) (x ∷ p) lw ls b zero lt = let f = window-fits n w s x b.0 in omega arith
windows-fit (n ∷ ns) (w ∷ ws) (s ∷ ss) (x ∷ p) lw ls b (suc k) lt = windows-fit ns ws ss p (omega arith) (omega arith) b.1 k (omega arith)

-- windows whose steps are their lengths
pub chunks-apart : {A one : Type 0} (at : ℕ → Option A) (ns : List ℕ) (start : ℕ) (bs cs ds : List ℕ) → Reaches one at ns start bs → ArePositive ns cs → AreStepsOf (window_counts ns cs cs) bs cs ds → AreApartImages ns start bs (window_counts ns cs cs) ds cs bs (window_index cs)
chunks-apart at ns start bs cs ds h pos apart =
    let lc = length-window_counts ns cs cs pos.as_many pos.as_many in
    record {
      images = windows-images at ns start bs cs cs ds h (record { as_many = pos.as_many; none = λ k lt e. absurd (let z = pos.positive k 0 (let l = pos.as_many in omega arith) in omega (arith, z, e)) }) pos apart;
      nested = λ p b. nested-shorter ns bs cs h.as_many pos.as_many (windows-fit ns cs cs p pos.as_many pos.as_many b);
      differ = λ p q is js bp bq bi bj e. window_index-differ (window_counts ns cs cs) cs p q is js (let l = pos.as_many in omega (arith, l, lc)) bp bq bi bj e;
    }
