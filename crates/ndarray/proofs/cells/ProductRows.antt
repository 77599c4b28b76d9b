-- Running products that are pushed row by row.
use Rattle.std.proofs.Common.{◌≡◌, ◌≢◌, ◌+◌, ◌-◌, ◌<◌, ◌≤◌, ℕ, zero, suc, List, [], ◌∷◌, ◌++◌, Some, length, get_or, set, refl, ap, sym, ◌∙◌, subst, arith, All}
use Rattle.std.specs.Prelude.{filter_map, slice_get}
use Rattle.std.specs.List.{AllByRecursion}
use Rattle.std.proofs.lemmas.List.{get_or-set_other, get_or-set_same, set-get_or, set-set}
use Rattle.std.proofs.lemmas.List.Elements.{All-drop, All-head, All-tail}
use Rattle.ndarray.specs.AlongAxis.{CanCumulate}
use Rattle.ndarray.specs.Elementwise.{CanMap}
use Rattle.ndarray.specs.Grid.{Grid, IsGrid, cell}
use Rattle.ndarray.specs.Index.{InBox, row_order, size}
use Rattle.ndarray.specs.Subviews.{lanes_of}
use Rattle.ndarray.specs.base.Ranks.{rank, row_at, row_from}
use Rattle.ndarray.specs.base.RunningProducts.{AreBlocks, RunningProducts}
use Rattle.ndarray.proofs.boxes.Boxes.{InBox-length}
use Rattle.ndarray.proofs.boxes.Orders.{row_order-is}
use Rattle.ndarray.proofs.cells.Cells.{along-first, cell-Some, length-along}
use Rattle.ndarray.proofs.cells.RunningProducts.{products-axis, products-back, products-before, products-can, products-place, products-room, running-products-next, slice_get-seam}
use Rattle.ndarray.proofs.lists.Elements.{All-from_recursion, All-to_recursion}
use Rattle.ndarray.proofs.strides.Rows.{length-row_from, row-first}

front : {X : Type 0} (P : X → Type 0) (xs ys : List X) → AllByRecursion P (xs ++ ys) → AllByRecursion P xs
front P [] ys h = tt
front P (x ∷ xs) ys h = (h.0, front P xs ys h.1)

module _ {A : Type 0} (gives : A → A → A → Type 0) (g : Grid A) (k : ℕ) where
  -- the index lists of a row that is next are in the box
  pub row-within : (ms : List A) (row rest : List (List ℕ)) → RunningProducts gives g k ms (row ++ rest) → All (InBox g.lengths) row
  row-within ms row rest h =
      let all = All-drop (InBox g.lengths) (length ms) (row_order g.lengths) (row_order-is g.lengths).within in
      All-from_recursion (InBox g.lengths) row (front (InBox g.lengths) row rest (All-to_recursion (InBox g.lengths) (row ++ rest) (subst (All (InBox g.lengths)) (sym h.indices) all)))

  -- Of a row's products the first have been pushed. The others are at these index lists, whose cells are xs and whose index on the axis is v.
  pub record AcrossRow (v : ℕ) (row : List (List ℕ)) (old new xs : List A) : Type 0 where
    pub to_come : List (List ℕ)
    pub cells : filter_map (cell g) to_come ≡ xs
    pub within : All (InBox g.lengths) to_come
    pub index : All (λ is. get_or is k 0 ≡ v) to_come
    pub pushed : (rest : List (List ℕ)) → RunningProducts gives g k old (row ++ rest) → RunningProducts gives g k new (to_come ++ rest)

  -- The same of a row along the axis: the last product pushed is p, at the index list `last`.
  pub record AlongRow (row : List (List ℕ)) (old new xs : List A) (p : A) : Type 0 where
    pub last : List ℕ
    pub count : ℕ
    pub cells : filter_map (cell g) (row_from (row_at last k 1) k count) ≡ xs
    pub within : All (InBox g.lengths) (row_from (row_at last k 1) k count)
    pub own : k < length last
    pub product : slice_get new (rank g.lengths last) ≡ Some p
    pub pushed : (rest : List (List ℕ)) → RunningProducts gives g k old (row ++ rest) → RunningProducts gives g k new (row_from (row_at last k 1) k count ++ rest)

-- a row that is not along the axis has one index on it
same-index : (k axis n : ℕ) → axis ≢ k → (v : ℕ) (is : List ℕ) → get_or is k 0 ≡ v → AllByRecursion (λ js. get_or js k 0 ≡ v) (row_from is axis n)
same-index k axis zero apart v is e = tt
same-index k axis (suc n) apart v is e = (e, same-index k axis n apart v (set is axis (get_or is axis 0 + 1)) (get_or-set_other is axis k (get_or is axis 0 + 1) 0 (λ q. apart (sym q)) ∙ e))

pub one-index : (k axis n : ℕ) → axis ≢ k → (v : ℕ) (is : List ℕ) → v ≡ get_or is k 0 → All (λ js. get_or js k 0 ≡ v) (row_from is axis n)
one-index k axis n apart v is e = All-from_recursion (λ js. get_or js k 0 ≡ v) (row_from is axis n) (same-index k axis n apart v is (sym e))

module _ {A : Type 0} (g : Grid A) (whole : IsGrid g) where
  -- of index lists in the box, the first cell is that of the first
  first-of : (ys : List (List ℕ)) → All (InBox g.lengths) ys → (x : A) (xs : List A) → filter_map (cell g) ys ≡ x ∷ xs
      → (is : List ℕ) × (rest : List (List ℕ)) × (ys ≡ is ∷ rest) × (cell g is ≡ Some x) × (filter_map (cell g) rest ≡ xs)
  first-of [] all x xs e = absurd (cc)
  first-of (is ∷ rest) all x xs e =
      let (y, s) = cell-Some g whole is (All-head (InBox g.lengths) is rest all) in
      let f : y ∷ filter_map (cell g) rest ≡ x ∷ xs = sym (along-first g (is ∷ rest) rest is y refl s) ∙ e in
      let same : y ≡ x = cc in
      let others : filter_map (cell g) rest ≡ xs = cc in
      (is, rest, refl, s ∙ ap Some same, others)

  none-of : (ys : List (List ℕ)) → All (InBox g.lengths) ys → filter_map (cell g) ys ≡ [] → ys ≡ []
  none-of [] all e = refl
  none-of (is ∷ rest) all e =
      let (y, s) = cell-Some g whole is (All-head (InBox g.lengths) is rest all) in
      let f : y ∷ filter_map (cell g) rest ≡ [] = sym (along-first g (is ∷ rest) rest is y refl s) ∙ e in
      absurd (cc)

module _ {A : Type 0} (gives : A → A → A → Type 0) (g : Grid A) (k block : ℕ) (blocks : AreBlocks g k block) where
  -- a row that is next has the axis
  pub row-axis : (ms : List A) (first : List ℕ) (axis n : ℕ) (rest : List (List ℕ)) → 0 < n → RunningProducts gives g k ms (row_from first axis n ++ rest) → k < length first
  row-axis ms first axis n rest some h =
      let l = InBox-length g.lengths first (row-first (InBox g.lengths) first axis n some (row-within gives g k ms (row_from first axis n) rest h)) in
      omega (arith, l, blocks.below)

  -- and some cells
  pub row-some : (ms : List A) (first : List ℕ) (axis n : ℕ) (rest : List (List ℕ)) → 0 < n → RunningProducts gives g k ms (row_from first axis n ++ rest) → filter_map (cell g) (row_from first axis n) ≡ [] → ⊥
  row-some ms first axis n rest some h none =
      let l = length-along g blocks.whole (row_from first axis n) (row-within gives g k ms (row_from first axis n) rest h) in
      let r = length-row_from first axis n in
      let e : length (filter_map (cell g) (row_from first axis n)) ≡ 0 = ap length none in
      omega (arith, l, r, e, some)

  module _ (row : List (List ℕ)) (old : List A) where
    -- ---- a row that is not along the axis

    pub across-start : (v : ℕ) (xs : List A) → filter_map (cell g) row ≡ xs → All (λ is. get_or is k 0 ≡ v) row → (rest : List (List ℕ)) → RunningProducts gives g k old (row ++ rest) → AcrossRow gives g k v row old old xs
    across-start v xs cells index rest h = record { to_come = row; cells = cells; within = row-within gives g k old row rest h; index = index; pushed = λ rest h. h }

    pub across-end : (v : ℕ) (new xs : List A) → xs ≡ [] → AcrossRow gives g k v row old new xs → (rest : List (List ℕ)) → RunningProducts gives g k old (row ++ rest) → RunningProducts gives g k new rest
    across-end v new xs none s rest h = subst (λ l. RunningProducts gives g k new (l ++ rest)) (none-of g blocks.whole s.to_come s.within (s.cells ∙ none)) (s.pushed rest h)

    -- the next cell is x
    module _ (v : ℕ) (new xs xs' : List A) (x : A) (s : AcrossRow gives g k v row old new xs) (next : xs ≡ x ∷ xs') (rest : List (List ℕ)) (h : RunningProducts gives g k old (row ++ rest)) where
      record Next : Type 0 where
        is : List ℕ
        others : List (List ℕ)
        to_come : s.to_come ≡ is ∷ others
        here : cell g is ≡ Some x
        cells : filter_map (cell g) others ≡ xs'
        index : get_or is k 0 ≡ v
        running : RunningProducts gives g k new (is ∷ (others ++ rest))

      at_next : Next
      at_next =
          let (is, others, e, here, cells) = first-of g blocks.whole s.to_come s.within x xs' (s.cells ∙ next) in
          record {
            is = is;
            others = others;
            to_come = e;
            here = here;
            cells = cells;
            index = All-head (λ js. get_or js k 0 ≡ v) is others (subst (All (λ js. get_or js k 0 ≡ v)) e s.index);
            running = subst (λ l. RunningProducts gives g k new (l ++ rest)) e (s.pushed rest h);
          }

      pub across-room : length new < size g.lengths
      across-room = let n = at_next in products-room gives g k block blocks new n.is (n.is ∷ (n.others ++ rest)) (n.others ++ rest) n.running refl

      pub across-back : 0 < v → (1 ≤ block) × (block ≤ length new)
      across-back some = let n = at_next in products-back gives g k block blocks new n.is (n.is ∷ (n.others ++ rest)) (n.others ++ rest) n.running refl (subst (λ w. 0 < w) (sym n.index) some)

      pub across-can : (can : A → A → Type 0) → CanMap (λ l. CanCumulate can gives l.cells) (lanes_of g k) → 0 < v → (p : A) → slice_get new (length new - block) ≡ Some p → can x p
      across-can can may some = let n = at_next in products-can gives g k block blocks new n.is (n.is ∷ (n.others ++ rest)) (n.others ++ rest) n.running refl x n.here can may (subst (λ w. 0 < w) (sym n.index) some)

      pub across-next : (z : A) → (v ≡ 0 → z ≡ x) → (0 < v → (p : A) → slice_get new (length new - block) ≡ Some p → gives x p z) → AcrossRow gives g k v row old (new ++ z ∷ []) xs'
      across-next z is_first is_next =
          let n = at_next in
          record {
            to_come = n.others;
            cells = n.cells;
            within = All-tail (InBox g.lengths) n.is n.others (subst (All (InBox g.lengths)) n.to_come s.within);
            index = All-tail (λ js. get_or js k 0 ≡ v) n.is n.others (subst (All (λ js. get_or js k 0 ≡ v)) n.to_come s.index);
            pushed = λ rest' h'.
                running-products-next gives g k block blocks new n.is (n.is ∷ (n.others ++ rest')) (n.others ++ rest') (subst (λ l. RunningProducts gives g k new (l ++ rest')) n.to_come (s.pushed rest' h')) refl x z n.here
                (λ none. is_first (sym n.index ∙ none)) (λ some. is_next (subst (λ w. 0 < w) n.index some));
          }

-- the first index list of a row, and the others
step-of : (k : ℕ) (l : List ℕ) (n : ℕ) (is : List ℕ) (others : List (List ℕ)) → row_from l k n ≡ is ∷ others → (m : ℕ) × (is ≡ l) × (others ≡ row_from (row_at l k 1) k m)
step-of k l zero is others e = absurd (cc)
step-of k l (suc m) is others e = (m, cc, cc)

module _ {A : Type 0} (gives : A → A → A → Type 0) (g : Grid A) (k block : ℕ) (blocks : AreBlocks g k block) where
  -- ---- a row along the axis

  -- the next index list of such a row is i, and its cell is x
  record NextAlong (ms : List A) (i : List ℕ) (n : ℕ) (xs' : List A) (x : A) (rest : List (List ℕ)) : Type 0 where
    count : ℕ
    row : row_from i k n ≡ i ∷ row_from (row_at i k 1) k count
    here : cell g i ≡ Some x
    cells : filter_map (cell g) (row_from (row_at i k 1) k count) ≡ xs'
    within : All (InBox g.lengths) (row_from (row_at i k 1) k count)
    running : RunningProducts gives g k ms (i ∷ (row_from (row_at i k 1) k count ++ rest))

  next-along : (ms : List A) (i : List ℕ) (n : ℕ) (xs xs' : List A) (x : A) (rest : List (List ℕ)) → xs ≡ x ∷ xs' → filter_map (cell g) (row_from i k n) ≡ xs → All (InBox g.lengths) (row_from i k n)
      → RunningProducts gives g k ms (row_from i k n ++ rest) → NextAlong ms i n xs' x rest
  next-along ms i n xs xs' x rest next cells all h =
      let (is, others, e, here, later) = first-of g blocks.whole (row_from i k n) all x xs' (cells ∙ next) in
      let (m, same, those) = step-of k i n is others e in
      let row : row_from i k n ≡ i ∷ row_from (row_at i k 1) k m = e ∙ (ap (λ l. l ∷ others) same ∙ ap (λ l. i ∷ l) those) in
      record {
        count = m;
        row = row;
        here = subst (λ l. cell g l ≡ Some x) same here;
        cells = subst (λ l. filter_map (cell g) l ≡ xs') those later;
        within = All-tail (InBox g.lengths) i (row_from (row_at i k 1) k m) (subst (All (InBox g.lengths)) row all);
        running = subst (λ l. RunningProducts gives g k ms (l ++ rest)) row h;
      }

  -- what has been pushed once its product is z
  after-along : (row : List (List ℕ)) (old new : List A) (i : List ℕ) (many : ℕ) (xs' : List A) (x z : A) (rest : List (List ℕ)) (n : NextAlong new i many xs' x rest)
      → ((rest' : List (List ℕ)) → RunningProducts gives g k old (row ++ rest') → RunningProducts gives g k new (row_from i k many ++ rest'))
      → (get_or i k 0 ≡ 0 → z ≡ x) → (0 < get_or i k 0 → (p : A) → slice_get new (length new - block) ≡ Some p → gives x p z) → AlongRow gives g k row old (new ++ z ∷ []) xs' z
  after-along row old new i many xs' x z rest n pushed is_first is_next =
      let left : List (List ℕ) = row_from (row_at i k 1) k n.count ++ rest in
      let axes = products-axis gives g k block blocks new i (i ∷ left) left n.running refl in
      let place = products-place gives g k block blocks new i (i ∷ left) left n.running refl in
      record {
        last = i;
        count = n.count;
        cells = n.cells;
        within = n.within;
        own = let b = blocks.below in omega (arith, axes, b);
        product = ap (slice_get (new ++ z ∷ [])) place ∙ slice_get-seam new z [];
        pushed = λ rest' h'. let others = row_from (row_at i k 1) k n.count ++ rest' in running-products-next gives g k block blocks new i (i ∷ others) others (subst (λ l. RunningProducts gives g k new (l ++ rest')) n.row (pushed rest' h')) refl x z n.here is_first is_next;
      }

  module _ (first : List ℕ) (count : ℕ) (old : List A) (rest : List (List ℕ)) (h : RunningProducts gives g k old (row_from first k count ++ rest)) where
    pub along-end : (new xs : List A) (p : A) → xs ≡ [] → AlongRow gives g k (row_from first k count) old new xs p → RunningProducts gives g k new rest
    along-end new xs p none s = subst (λ l. RunningProducts gives g k new (l ++ rest)) (none-of g blocks.whole (row_from (row_at s.last k 1) k s.count) s.within (s.cells ∙ none)) (s.pushed rest h)

    -- the first cell is x
    module _ (xs xs' : List A) (x : A) (cells : filter_map (cell g) (row_from first k count) ≡ xs) (next : xs ≡ x ∷ xs') where
      n : NextAlong old first count xs' x rest
      n = next-along old first count xs xs' x rest next cells (row-within gives g k old (row_from first k count) rest h) h

      abbrev left : List (List ℕ)
      left = row_from (row_at first k 1) k n.count ++ rest

      pub first-room : length old < size g.lengths
      first-room = products-room gives g k block blocks old first (first ∷ left) left n.running refl

      pub first-back : 0 < get_or first k 0 → (1 ≤ block) × (block ≤ length old)
      first-back = products-back gives g k block blocks old first (first ∷ left) left n.running refl

      pub first-can : (can : A → A → Type 0) → CanMap (λ l. CanCumulate can gives l.cells) (lanes_of g k) → 0 < get_or first k 0 → (p : A) → slice_get old (length old - block) ≡ Some p → can x p
      first-can = products-can gives g k block blocks old first (first ∷ left) left n.running refl x n.here

      pub along-start : (z : A) → (get_or first k 0 ≡ 0 → z ≡ x) → (0 < get_or first k 0 → (p : A) → slice_get old (length old - block) ≡ Some p → gives x p z) → AlongRow gives g k (row_from first k count) old (old ++ z ∷ []) xs' z
      along-start z is_first is_next = after-along (row_from first k count) old old first count xs' x z rest n (λ rest' h'. h') is_first is_next

    -- the next cell is x, behind the product p
    module _ (new xs xs' : List A) (p x : A) (s : AlongRow gives g k (row_from first k count) old new xs p) (next : xs ≡ x ∷ xs') where
      abbrev i : List ℕ
      i = row_at s.last k 1

      m : NextAlong new i s.count xs' x rest
      m = next-along new i s.count xs xs' x rest next s.cells s.within (s.pushed rest h)

      abbrev others : List (List ℕ)
      others = row_from (row_at i k 1) k m.count ++ rest

      index : get_or i k 0 ≡ suc (get_or s.last k 0)
      index = get_or-set_same s.last k (get_or s.last k 0 + 1) 0 s.own ∙ omega arith

      product-before : slice_get new (length new - block) ≡ Some p
      product-before =
          ap (slice_get new) (sym (products-before gives g k block blocks new i (i ∷ others) others m.running refl (get_or s.last k 0) index)
          ∙ ap (rank g.lengths) (set-set s.last k (get_or s.last k 0 + 1) (get_or s.last k 0) ∙ set-get_or s.last k 0))
          ∙ s.product

      pub along-room : length new < size g.lengths
      along-room = products-room gives g k block blocks new i (i ∷ others) others m.running refl

      pub along-can : (can : A → A → Type 0) → CanMap (λ l. CanCumulate can gives l.cells) (lanes_of g k) → can x p
      along-can can may = products-can gives g k block blocks new i (i ∷ others) others m.running refl x m.here can may (omega (arith, index)) p product-before

      pub along-next : (z : A) → gives x p z → AlongRow gives g k (row_from first k count) old (new ++ z ∷ []) xs' z
      along-next z given = after-along (row_from first k count) old new i s.count xs' x z rest m s.pushed (λ none. absurd (omega (arith, none, index)))
          (λ some q at_q. let same : p ≡ q = (let e = sym product-before ∙ at_q in cc) in subst (λ w. gives x w z) same given)
