-- Lanes whose cells are replaced one after another by the steps of a scan.
use Rattle.std.proofs.Common.{◌≡◌, ◌≢◌, ◌+◌, ◌<◌, ◌≤◌, ℕ, zero, suc, List, [], ◌∷◌, ◌++◌, Some, length, get_or, min, set, insert, remove, refl, sym, ◌∙◌, ap, subst, arith, inl, inr, append-nil, append_assoc, length-append}
use Rattle.std.specs.Prelude.{All, slice_get, Contains}
use Rattle.std.specs.List.{FoldsTo}
use Rattle.std.proofs.Math.Seq.{get_or-append_seam, set-append_seam}
use Rattle.std.proofs.lemmas.Bool.{cases_eq}
use Rattle.std.proofs.lemmas.Fn.{FoldsTo-push}
use Rattle.std.proofs.lemmas.List.{get_or_append_left, get_or-set_other, get_or-set_same, length-set, set-get_or, set-set}
use Rattle.std.proofs.lemmas.List.Edits.{length-remove}
use Rattle.std.proofs.lemmas.List.Elements.{All-contains, All-push}
use Rattle.std.proofs.lemmas.Option.{get_or_from_slice_get, slice_get_within}
use Rattle.ndarray.specs.Grid.{Grid, IsGrid, array_by, cell, cells_by, tabulate}
use Rattle.ndarray.specs.Index.{InBox, row_order}
use Rattle.ndarray.specs.Limits.{IsWithinLimit}
use Rattle.ndarray.specs.Scans.{ScanStep, MayScan, MayScanLanes, ScansLanes, ScansTo}
use Rattle.ndarray.specs.Subviews.{lane, lanes_along, lanes_of}
use Rattle.ndarray.specs.Writes.{with_cell}
use Rattle.ndarray.specs.base.Laws.{slice_set-here, slice_set-elsewhere}
use Rattle.ndarray.specs.declared.base.shape.Order.TheVariants.{RowMajor}
use Rattle.ndarray.proofs.boxes.Boxes.{InBox-get, InBox-length, InBox-set_both}
use Rattle.ndarray.proofs.boxes.Orders.{box_in-within, row_order-is}
use Rattle.ndarray.proofs.boxes.Sizes.{nonzero-smaller}
use Rattle.ndarray.proofs.callers.Collecting.{array_by-at, lanes_of-some}
use Rattle.ndarray.proofs.cells.Assignments.{here-first, here-within}
use Rattle.ndarray.proofs.cells.Cells.{array_by-cell, cell-inside, tabulate-same}
use Rattle.ndarray.proofs.cells.LaneCells.{lane-among, lane-cell, lane-length, no-lane}
use Rattle.ndarray.proofs.cells.Writes.{with_cell-whole, with_cell-here}
use Rattle.ndarray.proofs.lists.Elements.{filled-slice, filter_map-from_map, insert-remove, remove-inserted, same_from_slice_get}
use Rattle.ndarray.proofs.views.Items.{InBox-insert}

-- a lane of which one cell is replaced
module _ {A : Type 0} (g h : Grid A) (whole : IsGrid g) (new : IsGrid h) (same : h.lengths ≡ g.lengths) (k : ℕ) (lt : k < length g.lengths) (is : List ℕ) (b : InBox g.lengths is) (i : ℕ) (below : i < get_or g.lengths k 0) (y : A) where
  pub lane-replaced : cell h (set is k i) ≡ Some y → ((j : ℕ) → j ≢ i → cell h (set is k j) ≡ cell g (set is k j)) → (lane h k (remove is k)).cells ≡ set (lane g k (remove is k)).cells i y
  lane-replaced here others =
      let b' : InBox h.lengths is = subst (λ ns. InBox ns is) (sym same) b in
      let lt' : k < length h.lengths = subst (λ ns. k < length ns) (sym same) lt in
      let long = lane-length h new k lt' is b' in
      let old = lane-length g whole k lt is b in
      let axis : get_or h.lengths k 0 ≡ get_or g.lengths k 0 = ap (λ ns. get_or ns k 0) same in
      let more = length-set (lane g k (remove is k)).cells i y in
      same_from_slice_get (lane h k (remove is k)).cells (set (lane g k (remove is k)).cells i y) (long ∙ (axis ∙ (sym old ∙ sym more)))
      (λ j at.
      let within : j < get_or g.lengths k 0 = omega (arith, at, long, axis) in
      lane-cell h new k lt' is b' j (omega (arith, within, axis))
      ∙ elim (cases_eq j i) [
        | inl e ↦ ap (λ v. cell h (set is k v)) e ∙ (here ∙ (sym (slice_set-here (lane g k (remove is k)).cells i y (filled-slice (lane g k (remove is k)).cells i (omega (arith, below, old)))) ∙ ap (slice_get (set (lane g k (remove is k)).cells i y)) (sym e)))
        | inr ne ↦ others j ne ∙ (sym (lane-cell g whole k lt is b j within) ∙ sym (slice_set-elsewhere (lane g k (remove is k)).cells i j y ne))
      ])

-- arrays that agree along a lane have it in common
pub lane-kept : {A : Type 0} (g h : Grid A) (k : ℕ) (js : List ℕ) → g.lengths ≡ h.lengths → k ≤ length js → ((is : List ℕ) → remove is k ≡ js → cell g is ≡ cell h is) → lane g k js ≡ lane h k js
lane-kept g h k js lengths le same = tabulate-same (get_or g.lengths k 0 ∷ []) (get_or h.lengths k 0 ∷ []) (λ is. cell g (insert js k (get_or is 0 0))) (λ is. cell h (insert js k (get_or is 0 0)))
    (ap (λ ns. get_or ns k 0 ∷ []) lengths) (λ is b. same (insert js k (get_or is 0 0)) (remove-inserted js k (get_or is 0 0) le))

module _ {A B : Type 0} (gives : B → A → B × A → Type 0) (init : B) where
  -- The elements done are replaced by those given, and the chain is at the value v. The others are as before.
  pub record Along (xs : List A) (v : B) (cells : List A) (i : ℕ) : Type 0 where
    pub done : List A
    pub rest : List A
    pub given : List A
    pub parts : done ++ rest ≡ xs
    pub now : given ++ rest ≡ cells
    pub at : length given ≡ i
    pub chain : FoldsTo {P = B × List A} (ScanStep gives) (init, []) done (v, given)

  pub Along-start : (xs : List A) → Along xs init xs 0
  Along-start xs = record { done = []; rest = xs; given = []; parts = refl; now = refl; at = refl; chain = refl }

  record Next (xs done : List A) (cells given : List A) (x : A) : Type 0 where
    rest : List A
    parts : done ++ (x ∷ rest) ≡ xs
    now : given ++ (x ∷ rest) ≡ cells

  module _ {xs : List A} {v : B} {cells : List A} {i : ℕ} (a : Along xs v cells i) {x : A} (there : slice_get cells i ≡ Some x) where
    next-of : Next xs a.done cells a.given x
    next-of = go a.rest a.parts a.now
      where
        go : (rest : List A) → a.done ++ rest ≡ xs → a.given ++ rest ≡ cells → Next xs a.done cells a.given x
        go [] p n =
            let within = slice_get_within cells i x there in
            let same : length a.given ≡ length cells = ap length (sym (append-nil a.given) ∙ n) in
            let at = a.at in
            absurd (omega (arith, within, same, at))
        go (z ∷ zs) p n =
            let here : z ≡ x = sym (get_or-append_seam a.given z zs z) ∙ (ap (λ l. get_or l (length a.given) z) n ∙ (ap (λ j. get_or cells j z) a.at ∙ get_or_from_slice_get cells i x z there)) in
            record { rest = zs; parts = ap (λ y. a.done ++ (y ∷ zs)) (sym here) ∙ p; now = ap (λ y. a.given ++ (y ∷ zs)) (sym here) ∙ n }

    pub Along-asks : (can : B → A → Type 0) → MayScan gives can init xs → can v x
    Along-asks can may = let n = next-of in may.at a.done x n.rest (v, a.given) n.parts a.chain

    pub Along-next : (w : B) (y : A) → gives v x (w, y) → Along xs w (set cells i y) (i + 1)
    Along-next w y given =
        let n = next-of in
        let many = length-append a.given (y ∷ []) in
        let at = a.at in
        record {
          done = a.done ++ (x ∷ []);
          rest = n.rest;
          given = a.given ++ (y ∷ []);
          parts = append_assoc a.done (x ∷ []) n.rest ∙ n.parts;
          now = append_assoc a.given (y ∷ []) n.rest ∙ (sym (set-append_seam a.given x n.rest y) ∙ (ap (λ l. set l (length a.given) y) n.now ∙ ap (λ j. set cells j y) a.at));
          at = omega (arith, many, at);
          chain = FoldsTo-push {P = B × List A} (ScanStep gives) (init, []) a.done (v, a.given) x (w, a.given ++ (y ∷ [])) a.chain (y, refl, given);
        }

  pub Along-end : {xs : List A} {v : B} {cells : List A} {i : ℕ} → Along xs v cells i → i ≡ length cells → ScansTo gives init xs cells
  Along-end {xs} {v} {cells} {i} a full = go a.rest a.parts a.now
    where
      go : (rest : List A) → a.done ++ rest ≡ xs → a.given ++ rest ≡ cells → ScansTo gives init xs cells
      go [] p n = (v, subst (λ l. FoldsTo {P = B × List A} (ScanStep gives) (init, []) l (v, cells)) (sym (append-nil a.done) ∙ p) (subst (λ l. FoldsTo {P = B × List A} (ScanStep gives) (init, []) a.done (v, l)) (sym (append-nil a.given) ∙ n) a.chain))
      go (z ∷ zs) p n =
          let many = length-append a.given (z ∷ zs) in
          let all : length (a.given ++ (z ∷ zs)) ≡ length cells = ap length n in
          let at = a.at in
          absurd (omega (arith, many, all, at, full))

-- the index lists of the first cells of lanes along an axis
module _ (ns : List ℕ) (k m : ℕ) (lt : k < length ns) (one : m ≤ 1) (most : m ≤ get_or ns k 0) where
  pub first-zero : (s : List ℕ) → InBox (set ns k m) s → get_or s k 0 ≡ 0
  first-zero s b =
      let l = length-set ns k m in
      let h = InBox-get (set ns k m) s k b (omega (arith, l, lt)) in
      let e = get_or-set_same ns k m 0 lt in
      omega (arith, h, e, one)

  first-lt : (s : List ℕ) → InBox (set ns k m) s → k < length s
  first-lt s b = let l = length-set ns k m in let n = InBox-length (set ns k m) s b in omega (arith, l, n, lt)

  pub first-inside : (s : List ℕ) → InBox (set ns k m) s → InBox ns s
  first-inside s b =
      let l = length-set ns k m in
      let h = InBox-get (set ns k m) s k b (omega (arith, l, lt)) in
      let e = get_or-set_same ns k m 0 lt in
      subst (λ ms. InBox ms s) (set-set ns k m (get_or ns k 0) ∙ set-get_or ns k 0)
      (subst (InBox (set (set ns k m) k (get_or ns k 0))) (set-get_or s k 0) (InBox-set_both (set ns k m) s k (get_or ns k 0) (get_or s k 0) b (omega (arith, h, e, most))))

  pub same-first : (s t : List ℕ) → InBox (set ns k m) s → InBox (set ns k m) t → remove s k ≡ remove t k → s ≡ t
  same-first s t b d e =
      sym (insert-remove s k 0 (first-lt s b)) ∙ (ap (λ v. insert (remove s k) k v) (first-zero s b ∙ sym (first-zero t d)) ∙ (ap (λ l. insert l k (get_or t k 0)) e ∙ insert-remove t k 0 (first-lt t d)))

  module _ (done : List (List ℕ)) (s : List ℕ) (rest : List (List ℕ)) (parts : done ++ (s ∷ rest) ≡ row_order (set ns k m)) where
    pub first-here : InBox (set ns k m) s
    first-here = here-within RowMajor (set ns k m) done s rest parts

    done-inside : All (InBox (set ns k m)) done
    done-inside = λ j d at.
        let many = length-append done (s ∷ rest) in
        subst (InBox (set ns k m)) (get_or_append_left done (s ∷ rest) d j at) (subst (All (InBox (set ns k m))) (sym parts) (box_in-within RowMajor (set ns k m)) j d (omega (arith, many, at)))

    -- no lane before is the same
    pub first-apart : All (λ t. remove t k ≢ remove s k) done
    first-apart = λ j d at e. here-first RowMajor (set ns k m) done s rest parts j d at (same-first (get_or done j d) s (done-inside j d at) first-here e)

    pub short-enough : k ≤ length (remove s k)
    short-enough = let a = first-lt s first-here in let r = length-remove s k a in omega (arith, a, r)

    pub done-short : All (λ t. k ≤ length (remove t k)) done
    done-short = λ j d at. (let a = first-lt (get_or done j d) (done-inside j d at) in let r = length-remove (get_or done j d) k a in omega (arith, a, r))

-- the index list of the first cell of a lane
module _ (ns : List ℕ) (k : ℕ) (lt : k < length ns) (js : List ℕ) (b : InBox (remove ns k) js) where
  short : k ≤ length js
  short = let n = InBox-length (remove ns k) js b in let r = length-remove ns k lt in omega (arith, n, r, lt)

  pub lane-of_first : remove (insert js k 0) k ≡ js
  lane-of_first = remove-inserted js k 0 short

  pub first-of_lane : (m : ℕ) → 0 < get_or ns k 0 → m ≡ 1 → InBox (set ns k m) (insert js k 0)
  first-of_lane m some is_one = subst (InBox (set ns k m)) (set-inserted js k short) (InBox-set_both ns (insert js k 0) k m 0 (InBox-insert ns js k 0 lt some b) (omega (arith, is_one)))
    where
      set-inserted : (ks : List ℕ) (p : ℕ) → p ≤ length ks → set (insert ks p 0) p 0 ≡ insert ks p 0
      set-inserted ks zero le = refl
      set-inserted [] (suc p) le = absurd (omega (arith, le))
      set-inserted (q ∷ ks) (suc p) le = ap (λ v. q ∷ v) (set-inserted ks p (omega (arith, le)))

-- the box of the first cells: one index on the axis, where there is one
pub set-smaller : (ns : List ℕ) (k m : ℕ) → m ≤ 1 → IsWithinLimit ns → IsWithinLimit (set ns k m)
set-smaller ns k m one limit =
    let long = length-set ns k m in
    let h = nonzero-smaller (set ns k m) ns long (λ j lt. elim (cases_eq j k) [
      | inl e ↦ inr (let here : get_or (set ns k m) j 0 ≡ m = ap (λ p. get_or (set ns k m) p 0) e ∙ get_or-set_same ns k m 0 (omega (arith, lt, e)) in omega (arith, here, one))
      | inr ne ↦ inl (let there = get_or-set_other ns k j m 0 ne in omega (arith, there))
    ]) in
    omega (arith, h, limit)

pub at-most-one : (n : ℕ) → min n 1 ≤ 1
at-most-one n = omega arith

pub at-most : (n m : ℕ) → n ≡ m → min n 1 ≤ m
at-most n m e = omega (arith, e)

pub is-one : (n m : ℕ) → n ≡ m → 0 < m → min n 1 ≡ 1
is-one n m e some = omega (arith, e, some)

-- all lanes along an axis are scanned where each is that has a cell
module _ {A B : Type 0} (gives : B → A → B × A → Type 0) (init : B) (old a : Grid A) (k : ℕ) (lt : k < length old.lengths) (same : a.lengths ≡ old.lengths) where
  pub lanes-scanned : IsGrid a → ((js : List ℕ) → InBox (remove old.lengths k) js → 0 < get_or old.lengths k 0 → ScansTo gives init (lane old k js).cells (lane a k js).cells) → ScansLanes gives k init old a
  lanes-scanned whole scanned = record {
    lengths = same;
    whole = whole;
    lanes = λ js x y e f.
        let among : lanes_of old k ≡ _ = lanes_of-some old.lengths old k (omega (arith, lt)) in
        let among' : lanes_of a k ≡ _ = lanes_of-some a.lengths a k (omega (arith, lt-now)) in
        let b : InBox (remove old.lengths k) js = subst (λ w. InBox w.lengths js) among (cell-inside (lanes_of old k) js x e) in
        let is-old : x ≡ lane old k js = array_by-at (remove old.lengths k) (lane old k) (lanes_of old k) js x among (cell-inside (lanes_of old k) js x e) e in
        let is-new : y ≡ lane a k js = array_by-at (remove a.lengths k) (lane a k) (lanes_of a k) js y among' (cell-inside (lanes_of a k) js y f) f in
        subst (λ w. ScansTo gives init w.cells y.cells) (sym is-old) (subst (λ w. ScansTo gives init (lane old k js).cells w.cells) (sym is-new) (each js b));
  }
    where
      lt-now : k < length a.lengths
      lt-now = subst (λ ns. k < length ns) (sym same) lt

      each : (js : List ℕ) → InBox (remove old.lengths k) js → ScansTo gives init (lane old k js).cells (lane a k js).cells
      each js b = elim (cases_eq (get_or old.lengths k 0) 0) [
        | inl empty ↦ subst (λ xs. ScansTo gives init xs (lane a k js).cells) (sym (no-lane old k js empty)) (subst (λ ys. ScansTo gives init [] ys) (sym (no-lane a k js (ap (λ ns. get_or ns k 0) same ∙ empty))) (init, refl))
        | inr ne ↦ scanned js b (omega (arith, ne))
      ]

-- all lanes along an axis, of which some are done
module _ {A B : Type 0} (gives : B → A → B × A → Type 0) (init : B) (old : Grid A) (k m : ℕ) where
  pub record LanesState (to_come : List (List ℕ)) (a : Grid A) : Type 0 where
    pub done : List (List ℕ)
    pub parts : done ++ to_come ≡ row_order (set old.lengths k m)
    pub lengths : a.lengths ≡ old.lengths
    pub whole : IsGrid a
    pub scanned : All (λ t. ScansTo gives init (lane old k (remove t k)).cells (lane a k (remove t k)).cells) done
    pub kept : (is : List ℕ) → All (λ t. remove t k ≢ remove is k) done → cell a is ≡ cell old is

  pub Lanes-start : (walked : List (List ℕ)) → walked ≡ row_order (set old.lengths k m) → IsGrid old → LanesState walked old
  Lanes-start walked e whole = record { done = []; parts = e; lengths = refl; whole = whole; scanned = λ j d at. absurd (omega (arith, at)); kept = λ is all. refl }

  module _ (lt : k < length old.lengths) (one : m ≤ 1) (most : m ≤ get_or old.lengths k 0) {to_come rest : List (List ℕ)} {s : List ℕ} {a : Grid A} (l : LanesState to_come a) (next : to_come ≡ s ∷ rest) where
    parts-now : l.done ++ (s ∷ rest) ≡ row_order (set old.lengths k m)
    parts-now = ap (λ ls. l.done ++ ls) (sym next) ∙ l.parts

    pub Lanes-within : InBox a.lengths s
    Lanes-within = subst (λ ns. InBox ns s) (sym l.lengths) (first-inside old.lengths k m lt one most s (first-here old.lengths k m lt one most l.done s rest parts-now))

    inside : InBox old.lengths s
    inside = first-inside old.lengths k m lt one most s (first-here old.lengths k m lt one most l.done s rest parts-now)

    pub Lanes-first : get_or s k 0 ≡ 0
    Lanes-first = first-zero old.lengths k m lt one most s (first-here old.lengths k m lt one most l.done s rest parts-now)

    lane-now : lane a k (remove s k) ≡ lane old k (remove s k)
    lane-now = lane-kept a old k (remove s k) l.lengths (short-enough old.lengths k m lt one most l.done s rest parts-now)
        (λ is e. l.kept is (λ j d at q. first-apart old.lengths k m lt one most l.done s rest parts-now j d at (q ∙ e)))

    pub Lanes-asks : (can : B → A → Type 0) → IsGrid old → MayScanLanes gives can k init old → MayScan gives can init (lane a k (remove s k)).cells
    Lanes-asks can whole may = subst (λ w. MayScan gives can init w.cells) (sym lane-now) (may.lanes (remove s k) (lane old k (remove s k)) (lane-among old whole k lt s inside))

    pub Lanes-next : (new : Grid A) → new.lengths ≡ a.lengths → IsGrid new → ScansTo gives init (lane a k (remove s k)).cells (lane new k (remove s k)).cells → ((is : List ℕ) → remove is k ≢ remove s k → cell new is ≡ cell a is) → LanesState rest new
    Lanes-next new lengths whole scanned others = record {
      done = l.done ++ (s ∷ []);
      parts = append_assoc l.done (s ∷ []) rest ∙ parts-now;
      lengths = lengths ∙ l.lengths;
      whole = whole;
      scanned = All-push (λ t. ScansTo gives init (lane old k (remove t k)).cells (lane new k (remove t k)).cells) l.done s
          (λ j d at.
          let t : List ℕ = get_or l.done j d in
          let same : lane new k (remove t k) ≡ lane a k (remove t k) = lane-kept new a k (remove t k) lengths (done-short old.lengths k m lt one most l.done s rest parts-now j d at)
          (λ is e. others is (λ q. first-apart old.lengths k m lt one most l.done s rest parts-now j d at (sym e ∙ q))) in
          subst (λ w. ScansTo gives init (lane old k (remove t k)).cells w.cells) (sym same) (l.scanned j d at))
          (subst (λ w. ScansTo gives init w.cells (lane new k (remove s k)).cells) lane-now scanned);
      kept = λ is all.
          let many = length-append l.done (s ∷ []) in
          let last : s ≡ get_or (l.done ++ (s ∷ [])) (length l.done) [] = sym (get_or-append_seam l.done s [] []) in
          others is (λ q. all (length l.done) [] (omega (arith, many)) (ap (λ t. remove t k) (sym last) ∙ sym q))
          ∙ l.kept is (λ j d at q. all j d (omega (arith, many, at)) (ap (λ t. remove t k) (get_or_append_left l.done (s ∷ []) d j at) ∙ q));
    }

  pub Lanes-end : (lt : k < length old.lengths) (some : 0 < get_or old.lengths k 0 → m ≡ 1) {to_come : List (List ℕ)} {a : Grid A} → LanesState to_come a → to_come ≡ [] → ScansLanes gives k init old a
  Lanes-end lt some {to_come} {a} l none = lanes-scanned gives init old a k lt l.lengths l.whole
      (λ js b more.
      let all : l.done ≡ row_order (set old.lengths k m) = sym (append-nil l.done) ∙ (ap (λ ls. l.done ++ ls) (sym none) ∙ l.parts) in
      subst (λ ls. ScansTo gives init (lane old k ls).cells (lane a k ls).cells) (lane-of_first old.lengths k lt js b)
      (All-contains (λ t. ScansTo gives init (lane old k (remove t k)).cells (lane a k (remove t k)).cells) l.done (insert js k 0) l.scanned
      (subst (λ ls. Contains ls (insert js k 0)) (sym all) ((row_order-is (set old.lengths k m)).whole (insert js k 0) (first-of_lane old.lengths k lt js b m more (some more))))))

-- the lane of an array of no axes
module _ {A : Type 0} (g : Grid A) (k : ℕ) (none : g.lengths ≡ []) (z : A) (there : cell g [] ≡ Some z) where
  among : lanes_of g k ≡ array_by [] (λ _. tabulate (1 ∷ []) (λ _. cell g []))
  among = ap (λ ns. lanes_along ns g k) none

  one-cell : cells_by (1 ∷ []) (λ _. cell g []) ≡ z ∷ []
  unfolding cells_by row_order
  one-cell = filter_map-from_map (λ _. cell g []) (row_order (1 ∷ [])) (z ∷ []) (ap (λ o. o ∷ []) there)

  only-lane : (js : List ℕ) (l : Grid A) → cell (lanes_of g k) js ≡ Some l → l.cells ≡ z ∷ []
  only-lane js l e = ap (λ w. w.cells) (array_by-at [] (λ _. tabulate (1 ∷ []) (λ _. cell g [])) (lanes_of g k) js l among (cell-inside (lanes_of g k) js l e) e) ∙ one-cell

  is-lane : cell (lanes_of g k) [] ≡ Some (tabulate (1 ∷ []) (λ _. cell g []))
  is-lane = ap (λ w. cell w []) among ∙ array_by-cell [] (λ _. tabulate (1 ∷ []) (λ _. cell g [])) [] tt

module _ {A B : Type 0} (gives : B → A → B × A → Type 0) (init : B) (old : Grid A) (k : ℕ) (none : old.lengths ≡ []) (x : A) (there : cell old [] ≡ Some x) where
  -- it is of one cell
  pub Only-asks : (can : B → A → Type 0) → MayScanLanes gives can k init old → can init x
  Only-asks can may =
      let m : MayScan gives can init (x ∷ []) = subst (MayScan gives can init) (one-cell old k none x there) (may.lanes [] (tabulate (1 ∷ []) (λ _. cell old [])) (is-lane old k none x there)) in
      m.at [] x [] (init, []) refl refl

  pub Only-end : (v : B) (y : A) (new : Grid A) → IsGrid old → gives init x (v, y) → new ≡ with_cell old [] y → ScansLanes gives k init old new
  Only-end v y new whole given is-new =
      let lengths : new.lengths ≡ old.lengths = ap (λ w. w.lengths) is-new in
      let now : cell new [] ≡ Some y = ap (λ w. cell w []) is-new ∙ with_cell-here old [] y whole (subst (λ ns. InBox ns []) (sym none) tt) in
      record {
        lengths = lengths;
        whole = subst IsGrid (sym is-new) (with_cell-whole old [] y whole);
        lanes = λ js l m e f. subst (λ xs. ScansTo gives init xs m.cells) (sym (only-lane old k none x there js l e))
            (subst (λ ys. ScansTo gives init (x ∷ []) ys) (sym (only-lane new k (lengths ∙ none) y now js m f)) (v, ((v, y ∷ []), (y, refl, given), refl)));
      }
