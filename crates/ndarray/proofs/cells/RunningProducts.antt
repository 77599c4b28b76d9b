-- The products of each lane, as they are pushed in row order.
use Rattle.std.proofs.Common.{◌≡◌, ◌+◌, ◌-◌, ◌*◌, ◌<◌, ◌≤◌, ℕ, zero, suc, List, [], ◌∷◌, ◌++◌, Some, length, drop, get_or, set, refl, ap, sym, ◌∙◌, subst, arith, inl, inr, remove}
use Rattle.std.specs.Prelude.{slice_get}
use Rattle.std.proofs.Math.Nat.{suc-mul}
use Rattle.std.proofs.lemmas.Bool.{cases_lt}
use Rattle.std.proofs.lemmas.Nat.{mul-le}
use Rattle.std.proofs.lemmas.List.{get_or-set_same, length-append, length-drop, set-set, set-get_or}
use Rattle.std.proofs.lemmas.Option.{get_or_from_slice_get, slice_get-get_or}
use Rattle.ndarray.specs.AlongAxis.{CanCumulate, CanMultiplyOn, Cumulates, one_further}
use Rattle.ndarray.specs.Elementwise.{CanMap}
use Rattle.ndarray.specs.Grid.{Grid, IsGrid, cell}
use Rattle.ndarray.specs.Index.{InBox, row_order, size}
use Rattle.ndarray.specs.Orders.{cells_in}
use Rattle.ndarray.specs.Subviews.{lane, lanes_of}
use Rattle.ndarray.specs.declared.base.shape.Order.TheVariants.{RowMajor}
use Rattle.ndarray.specs.base.Strides.{AreStridesOf}
use Rattle.ndarray.specs.base.Ranks.{axis_in, block_in, rank}
use Rattle.ndarray.specs.base.RunningProducts.{AreBlocks, AtProduct, RunningProducts}
use Rattle.ndarray.proofs.boxes.Boxes.{InBox-length, InBox-get, InBox-set, InBox-drop, InBox-some}
use Rattle.ndarray.proofs.boxes.Orders.{box_in-at, box_in-back, length-box_in, rank_in-lt}
use Rattle.ndarray.proofs.boxes.Walks.{rank_in-set}
use Rattle.ndarray.proofs.cells.Cells.{along-row_order, cell-Some, cell-inside, cell-within}
use Rattle.ndarray.proofs.cells.LaneCells.{lane-among, lane-cell}

-- what is left of a list begins with its element at that place
drop-head : {X : Type 0} (xs : List X) (q : ℕ) (x : X) (rest : List X) → drop q xs ≡ x ∷ rest → (q < length xs) × (slice_get xs q ≡ Some x) × (rest ≡ drop (suc q) xs)
drop-head [] zero x rest e = absurd (cc)
drop-head [] (suc q) x rest e = absurd (cc)
drop-head (y ∷ xs) zero x rest e = (omega arith, cc, cc)
drop-head (y ∷ xs) (suc q) x rest e = let (lt, at, r) = drop-head xs q x rest e in (omega (arith, lt), at, r)

slice_get-before : {X : Type 0} (xs ys : List X) (k : ℕ) → k < length xs → slice_get (xs ++ ys) k ≡ slice_get xs k
slice_get-before [] ys k lt = absurd (omega arith)
slice_get-before (x ∷ xs) ys zero lt = refl
slice_get-before (x ∷ xs) ys (suc k) lt = slice_get-before xs ys k (omega arith)

pub slice_get-seam : {X : Type 0} (xs : List X) (y : X) (ys : List X) → slice_get (xs ++ y ∷ ys) (length xs) ≡ Some y
slice_get-seam [] y ys = refl
slice_get-seam (x ∷ xs) y ys = slice_get-seam xs y ys

-- along a list whose products may be formed, the product at each place may be multiplied on
multiply-on : {A : Type 0} (can : A → A → Type 0) (gives : A → A → A → Type 0) (xs : List A) (p : ℕ → A) (v : ℕ) → CanMultiplyOn can gives (p 0) xs
    → ((j : ℕ) (x : A) → j < v → slice_get xs j ≡ Some x → gives x (p j) (p (suc j))) → (x : A) → slice_get xs v ≡ Some x → can x (p v)
multiply-on can gives [] p v h chain x e = absurd (cc)
multiply-on can gives (y ∷ xs) p zero h chain x e = let same : y ≡ x = cc in subst (λ z. can z (p 0)) same h.0
multiply-on can gives (y ∷ xs) p (suc v) h chain x e = multiply-on can gives xs (λ j. p (suc j)) v (h.1 (p 1) (chain 0 y (omega arith) refl)) (λ j z lt s. chain (suc j) z (omega arith) s) x e

cumulate-on : {A : Type 0} (can : A → A → Type 0) (gives : A → A → A → Type 0) (xs : List A) (p : ℕ → A) (v : ℕ) → CanCumulate can gives xs → slice_get xs 0 ≡ Some (p 0)
    → ((j : ℕ) (x : A) → j < v → slice_get xs (suc j) ≡ Some x → gives x (p j) (p (suc j))) → (x : A) → slice_get xs (suc v) ≡ Some x → can x (p v)
cumulate-on can gives [] p v h first chain x e = absurd (cc)
cumulate-on can gives (y ∷ xs) p v h first chain x e = let same : y ≡ p 0 = cc in multiply-on can gives xs p v (subst (λ z. CanMultiplyOn can gives z xs) same h) chain x e

pub own-blocks : {A : Type 0} (g : Grid A) (k : ℕ) → IsGrid g → k < length g.lengths → AreBlocks g k (block_in RowMajor g.lengths (length g.lengths - 1 - k))
own-blocks g k whole below = record { whole = whole; below = below; is_block = refl }

-- as the strides of row order are
pub blocks-of : {A : Type 0} (g : Grid A) (k block : ℕ) (ms bs : List ℕ) → IsGrid g → k < length g.lengths → ms ≡ g.lengths → AreStridesOf RowMajor ms bs → block ≡ get_or bs k 0 → AreBlocks g k block
blocks-of g k block ms bs whole below same strides e =
    let h : AreStridesOf RowMajor g.lengths bs = subst (λ ns. AreStridesOf RowMajor ns bs) same strides in
    let axis : axis_in RowMajor (length g.lengths) (length g.lengths - 1 - k) ≡ k = omega arith in
    record { whole = whole; below = below; is_block = e ∙ (ap (λ a. get_or bs a 0) (sym axis) ∙ h.each (length g.lengths - 1 - k) (omega arith)) }

module _ {A : Type 0} (g : Grid A) (k block : ℕ) (blocks : AreBlocks g k block) where
  whole : IsGrid g
  whole = blocks.whole

  lt : k < length g.lengths
  lt = blocks.below

  is_block : block ≡ block_in RowMajor g.lengths (length g.lengths - 1 - k)
  is_block = blocks.is_block

  -- another index on the axis
  pub rank-at : (is : List ℕ) (v : ℕ) → InBox g.lengths is → rank g.lengths (set is k v) + get_or is k 0 * block ≡ rank g.lengths is + v * block
  rank-at is v b =
      let p : ℕ = length g.lengths - 1 - k in
      let axis : axis_in RowMajor (length g.lengths) p ≡ k = omega arith in
      rw is_block (subst (λ a. rank g.lengths (set is a v) + get_or is a 0 * block_in RowMajor g.lengths p ≡ rank g.lengths is + v * block_in RowMajor g.lengths p) axis
      (rank_in-set RowMajor g.lengths is p v (InBox-length g.lengths is b) (omega arith)))

  -- one step back along it
  rank-back : (is : List ℕ) (v : ℕ) → InBox g.lengths is → get_or is k 0 ≡ suc v → rank g.lengths (set is k v) + block ≡ rank g.lengths is
  rank-back is v b e =
      let r : rank g.lengths (set is k v) + suc v * block ≡ rank g.lengths is + v * block = ap (λ n. rank g.lengths (set is k v) + n * block) (sym e) ∙ rank-at is v b in
      let m = suc-mul v block in
      omega (arith, r, m)

  pub block-pos : (is : List ℕ) → InBox g.lengths is → 1 ≤ block
  block-pos is b =
      let d = InBox-drop (length g.lengths - (length g.lengths - 1 - k)) g.lengths is b in
      let s = InBox-some _ _ d in
      omega (arith, s, is_block)

module _ {A : Type 0} (gives : A → A → A → Type 0) (g : Grid A) (k block : ℕ) (blocks : AreBlocks g k block) where
  pub products-start : (left : List (List ℕ)) → left ≡ row_order g.lengths → RunningProducts gives g k [] left
  products-start left e = record { indices = e; room = omega arith; so_far = λ is b r. absurd (omega arith) }

  -- the next index list is i
  module _ (ms : List A) (i : List ℕ) (left left' : List (List ℕ)) (h : RunningProducts gives g k ms left) (next_i : left ≡ i ∷ left') where
    record Here : Type 0 where
      within : InBox g.lengths i
      place : rank g.lengths i ≡ length ms
      room : length ms < size g.lengths
      indices : left' ≡ drop (suc (length ms)) (row_order g.lengths)

    here : Here
    here =
        let (lt_i, at_i, rest_i) = drop-head (row_order g.lengths) (length ms) i left' (sym h.indices ∙ next_i) in
        let long = length-box_in RowMajor g.lengths in
        let below : length ms < size g.lengths = omega (arith, long, lt_i) in
        let (b, r) = box_in-back RowMajor g.lengths (length ms) below in
        let same : get_or (row_order g.lengths) (length ms) [] ≡ i = get_or_from_slice_get (row_order g.lengths) (length ms) i [] at_i in
        let within : InBox g.lengths i = subst (InBox g.lengths) same b in
        let place : rank g.lengths i ≡ length ms = ap (rank g.lengths) (sym same) ∙ r in
        record { within = within; place = place; room = below; indices = rest_i }

    pub products-within : InBox g.lengths i
    products-within = here.within

    pub products-room : length ms < size g.lengths
    products-room = here.room

    pub products-place : rank g.lengths i ≡ length ms
    products-place = here.place

    pub products-axis : length i ≡ length g.lengths
    products-axis = InBox-length g.lengths i here.within

    -- the product before it has been pushed
    pub products-back : (0 < get_or i k 0) → (1 ≤ block) × (block ≤ length ms)
    products-back some =
        let r = rank-back g k block blocks i (get_or i k 0 - 1) here.within (omega arith) in
        let e = here.place in
        (block-pos g k block blocks i here.within, omega (arith, r, e))

    pub products-before : (v : ℕ) → get_or i k 0 ≡ suc v → rank g.lengths (set i k v) ≡ length ms - block
    products-before v e = let r = rank-back g k block blocks i v here.within e in let p = here.place in omega (arith, r, p)

    only-one : (is : List ℕ) → InBox g.lengths is → rank g.lengths is ≡ length ms → is ≡ i
    only-one is b r = sym (box_in-at RowMajor g.lengths is [] b) ∙ (ap (λ q. get_or (row_order g.lengths) q []) (r ∙ sym here.place) ∙ box_in-at RowMajor g.lengths i [] here.within)

    pub running-products-next : (x z : A) → cell g i ≡ Some x → (get_or i k 0 ≡ 0 → z ≡ x) → (0 < get_or i k 0 → (p : A) → slice_get ms (length ms - block) ≡ Some p → gives x p z) → RunningProducts gives g k (ms ++ z ∷ []) left'
    running-products-next x z here_x is_first is_next =
        let long : length (ms ++ z ∷ []) ≡ suc (length ms) = length-append ms (z ∷ []) ∙ omega arith in
        let old : (j : ℕ) → j < length ms → slice_get (ms ++ z ∷ []) j ≡ slice_get ms j = λ j below. slice_get-before ms (z ∷ []) j below in
        let last : slice_get (ms ++ z ∷ []) (rank g.lengths i) ≡ Some z = ap (slice_get (ms ++ z ∷ [])) here.place ∙ slice_get-seam ms z [] in
        let at_here : AtProduct gives g k (ms ++ z ∷ []) i = record {
          first = λ y zero e. last ∙ (ap Some (is_first zero) ∙ (sym here_x ∙ e));
          next = λ v y p some e q.
              let at = products-before v some in
              let pos = block-pos g k block blocks i here.within in
              let far = products-back (omega arith) in
              let same : y ≡ x = (let w = sym e ∙ here_x in cc) in
              let q' : slice_get ms (length ms - block) ≡ Some p = sym (old (length ms - block) (omega (arith, pos, far.1))) ∙ (ap (slice_get (ms ++ z ∷ [])) (sym at) ∙ q) in
              (z, last, subst (λ w. gives w p z) (sym same) (is_next (omega arith) p q'));
        } in
        record {
          indices = here.indices ∙ ap (λ n. drop n (row_order g.lengths)) (sym long);
          room = let q = here.room in omega (arith, long, q);
          so_far = λ is b r. elim (cases_lt (rank g.lengths is) (length ms)) [
            | inl earlier ↦
                (let a = h.so_far is b earlier in
                record {
                  first = λ y zero e. old (rank g.lengths is) earlier ∙ a.first y zero e;
                  next = λ v y p some e q.
                      let back = rank-back g k block blocks is v b some in
                      let (w, f, gv) = a.next v y p some e (sym (old (rank g.lengths (set is k v)) (omega (arith, back, earlier))) ∙ q) in
                      (w, old (rank g.lengths is) earlier ∙ f, gv);
                })
            | inr later ↦ subst (AtProduct gives g k (ms ++ z ∷ [])) (sym (only-one is b (omega (arith, later, r, long)))) at_here
          ];
        }

    -- and its cell may be multiplied by it
    pub products-can : (x : A) → cell g i ≡ Some x → (can : A → A → Type 0) → CanMap (λ l. CanCumulate can gives l.cells) (lanes_of g k) → 0 < get_or i k 0 → (p : A) → slice_get ms (length ms - block) ≡ Some p → can x p
    products-can x here_x can may some p at_p =
        let v : ℕ = get_or i k 0 - 1 in
        let ev : get_or i k 0 ≡ suc v = omega arith in
        let b = here.within in
        let len = InBox-length g.lengths i b in
        let fits : get_or i k 0 < get_or g.lengths k 0 = InBox-get g.lengths i k b blocks.below in
        let n : ℕ → List ℕ = λ j. set i k j in
        let box : (j : ℕ) → j ≤ v → InBox g.lengths (n j) = λ j le. InBox-set g.lengths i k j b (omega arith) in
        let index : (j : ℕ) → get_or (n j) k 0 ≡ j = λ j. get_or-set_same i k j 0 (omega (arith, len)) in
        let pos = block-pos g k block blocks i b in
        let low : (j : ℕ) → j ≤ v → rank g.lengths (n j) < length ms =
        λ j le.
        let r = rank-at g k block blocks i j b in
        let m : suc j * block ≤ get_or i k 0 * block = mul-le (suc j) block (get_or i k 0) block (omega arith) (omega arith) in
        let e = suc-mul j block in
        let t = here.place in
        omega (arith, r, m, e, t, pos) in
        let value : ℕ → A = λ j. get_or ms (rank g.lengths (n j)) x in
        let at : (j : ℕ) → j ≤ v → slice_get ms (rank g.lengths (n j)) ≡ Some (value j) = λ j le. slice_get-get_or ms (rank g.lengths (n j)) x (low j le) in
        let lane_at = lane-cell g blocks.whole k blocks.below i b in
        let last : value v ≡ p = (let s = sym (at v (omega arith)) ∙ (ap (slice_get ms) (products-before v ev) ∙ at_p) in cc) in
        let (x0, e0) = cell-Some g blocks.whole (n 0) (box 0 (omega arith)) in
        subst (can x) last
        (cumulate-on can gives (lane g k (remove i k)).cells value v (may (remove i k) (lane g k (remove i k)) (lane-among g blocks.whole k blocks.below i b))
        (lane_at 0 (omega (arith, fits)) ∙ (e0 ∙ (sym ((h.so_far (n 0) (box 0 (omega arith)) (low 0 (omega arith))).first x0 (index 0) e0) ∙ at 0 (omega arith))))
        (λ j y below e.
        let cell_at : cell g (n (suc j)) ≡ Some y = sym (lane_at (suc j) (omega (arith, fits))) ∙ e in
        let step = (h.so_far (n (suc j)) (box (suc j) (omega arith)) (low (suc j) (omega arith))).next j y (value j) (index (suc j)) cell_at (ap (λ l. slice_get ms (rank g.lengths l)) (set-set i k (suc j) j) ∙ at j (omega arith)) in
        let same : step.0 ≡ value (suc j) = (let s = sym step.1 ∙ at (suc j) (omega arith) in cc) in
        subst (gives y (value j)) same step.2)
        x (lane_at (suc v) (omega (arith, fits)) ∙ (ap (cell g) (ap (set i k) (sym ev) ∙ set-get_or i k 0) ∙ here_x)))

  -- nothing is left
  pub products-all : (ms : List A) (left : List (List ℕ)) → RunningProducts gives g k ms left → left ≡ [] → length ms ≡ size g.lengths
  products-all ms left h none =
      let long = length-box_in RowMajor g.lengths in
      let dropped = length-drop (length ms) (row_order g.lengths) in
      let z = ap length (sym h.indices ∙ none) in
      omega (arith, z, dropped, long, h.room)

  -- the array of all of them
  pub cumulates-of : (ms : List A) (left : List (List ℕ)) (r : Grid A) → RunningProducts gives g k ms left → length ms ≡ size g.lengths → IsGrid r → r.lengths ≡ g.lengths → cells_in RowMajor r ≡ ms → Cumulates gives k g r
  cumulates-of ms left r h full whole_r same list =
      let cells : r.cells ≡ ms = sym (along-row_order r whole_r) ∙ list in
      let at : (is : List ℕ) → InBox g.lengths is → cell r is ≡ slice_get ms (rank g.lengths is) =
      λ is b. cell-within r whole_r is (subst (λ ns. InBox ns is) (sym same) b) ∙ (ap (slice_get r.cells) (ap (λ ns. rank ns is) same) ∙ ap (λ l. slice_get l (rank g.lengths is)) cells) in
      let product : (is : List ℕ) → InBox g.lengths is → AtProduct gives g k ms is = λ is b. h.so_far is b (let l = rank_in-lt RowMajor g.lengths is b in omega (arith, l, full)) in
      record {
        lengths = same;
        whole = whole_r;
        first = λ is x zero e. let b = cell-inside g is x e in at is b ∙ (product is b).first x zero e;
        next = λ is x p z e f q.
            let js : List ℕ = one_further k is in
            let b = cell-inside g js x e in
            let c : InBox g.lengths is = subst (λ ns. InBox ns is) same (cell-inside r is p f) in
            let len = InBox-length g.lengths is c in
            let index : get_or js k 0 ≡ suc (get_or is k 0) = get_or-set_same is k (get_or is k 0 + 1) 0 (omega (arith, len)) ∙ omega arith in
            let back : set js k (get_or is k 0) ≡ is = set-set is k (get_or is k 0 + 1) (get_or is k 0) ∙ set-get_or is k 0 in
            let (w, at_w, gv) = (product js b).next (get_or is k 0) x p index e (ap (λ l. slice_get ms (rank g.lengths l)) back ∙ (sym (at is c) ∙ f)) in
            let same_z : w ≡ z = (let s = sym at_w ∙ (sym (at js b) ∙ q) in cc) in
            subst (gives x p) same_z gv;
      }
