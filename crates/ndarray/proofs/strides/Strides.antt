-- The strides of a box whose cells lie side by side, and the view that they make.
use Rattle.std.proofs.Common.{◌≡◌, ◌≢◌, ℕ, ◌+◌, ◌-◌, ◌*◌, ◌<◌, ◌≤◌, ◌^◌, zero, suc, ◌⊎◌, List, [], ◌∷◌, length, map, take, drop, set, get_or, Option, Some, inl, inr, refl, sym, ◌∙◌, ap, arith, subst}
use Rattle.std.specs.Prelude.{slice_get, IsTrue}
use Rattle.std.specs.Option.{is_some, option_map}
use Rattle.std.proofs.Math.Nat.{zero-mul, mul-zero}
use Rattle.std.proofs.lemmas.Bool.{cases_lt}
use Rattle.std.proofs.lemmas.List.{length-map, length-take-le, get_or-set_same, get_or-set_other}
use Rattle.ndarray.specs.Index.{InBox, size, row_order}
use Rattle.ndarray.specs.Limits.{nonzero_size}
use Rattle.ndarray.specs.Grid.{Grid, cell}
use Rattle.ndarray.specs.Orders.{box_in, cells_in}
use Rattle.ndarray.specs.base.Ranks.{rank, column_rank, rank_in, axis_in, block_in}
use Rattle.ndarray.specs.base.Places.{dot, place, Reaches, grid_at}
use Rattle.ndarray.specs.base.Strides.{AreStridesOf}
use Rattle.ndarray.specs.declared.base.shape.Order.{Order}
use Rattle.ndarray.specs.declared.base.shape.Order.TheVariants.{RowMajor, ColumnMajor}
use Rattle.std.proofs.lemmas.Option.{slice_get-get_or, slice_get-map}
use Rattle.ndarray.proofs.lists.Elements.{same_from_slice_get, slice_get-Some, slice_get-take, filled-slice, filter_map-from_map}
use Rattle.ndarray.proofs.boxes.Sizes.{size-take_fits, size-drop_fits, size-le}
use Rattle.ndarray.proofs.boxes.Orders.{length-box_in, rank-lt, rank_in-lt, row_order-back, box_in-back}
use Rattle.ndarray.proofs.boxes.Walks.{axis_in-lt, block_in-more}
use Rattle.ndarray.proofs.strides.NestedBoxes.{nested-strides}
use Rattle.ndarray.proofs.strides.Reach.{cell-at, grid_at-same}

pub block_in-fits : (o : Order) (ns : List ℕ) (p : ℕ) → nonzero_size ns < 2 ^ 63 → block_in o ns p < 2 ^ 64
block_in-fits RowMajor ns p h = size-drop_fits ns (length ns - p) h
block_in-fits ColumnMajor ns p h = size-take_fits ns p h

pub block-step : (o : Order) (ns : List ℕ) (n p k block len : ℕ) → n ≡ length ns → p < n → k ≡ axis_in o n p → len ≡ get_or ns k 0 → block ≡ block_in o ns p → block * len ≡ block_in o ns (p + 1)
block-step o ns n p k block len en lt ek el eb =
    let e : get_or ns (axis_in o (length ns) p) 0 ≡ len = ap (λ x. get_or ns (axis_in o x p) 0) (sym en) ∙ (ap (λ x. get_or ns x 0) (sym ek) ∙ sym el) in
    let m : block_in o ns (p + 1) ≡ len * block = block_in-more o ns p (omega arith) ∙ (ap (λ x. x * block_in o ns p) e ∙ ap (λ x. len * x) (sym eb)) in
    omega arith

axis_in-other : (o : Order) (n p q : ℕ) → p < n → q < p → axis_in o n q ≢ axis_in o n p
axis_in-other RowMajor n p q h l = λ e. omega arith
axis_in-other ColumnMajor n p q h l = λ e. omega arith

-- one more stride is written
pub strides-more : (o : Order) (n p k b : ℕ) (bs cs : List ℕ) (f : ℕ → ℕ) → p < n → k ≡ axis_in o n p → length bs ≡ n → cs ≡ set bs k b → b ≡ f p → ((q : ℕ) → q < p → get_or bs (axis_in o n q) 0 ≡ f q) → (q : ℕ) → q < p + 1 → get_or cs (axis_in o n q) 0 ≡ f q
strides-more o n p k b bs cs f lt ek l ec eb so_far q h =
    ap (λ x. get_or x (axis_in o n q) 0) (ec ∙ ap (λ x. set bs x b) ek)
    ∙ elim (cases_lt q p) [
      | inl below ↦ get_or-set_other bs (axis_in o n p) (axis_in o n q) b 0 (axis_in-other o n p q lt below) ∙ so_far q below
      | inr above ↦ (let e : q ≡ p = omega (arith, above) in
          ap (λ x. get_or (set bs (axis_in o n p) b) (axis_in o n x) 0) e
          ∙ (get_or-set_same bs (axis_in o n p) b 0 (let a = axis_in-lt o n p lt in omega arith) ∙ (eb ∙ ap f (sym e))))
    ]

-- the axis that varies q-th fastest in row order has length 1, or the stride that it has where cells lie side by side
abbrev pub IsContiguousAt : (ns bs : List ℕ) (q : ℕ) → Type 0
IsContiguousAt ns bs q = (get_or ns (axis_in RowMajor (length ns) q) 0 ≡ 1) ⊎ (get_or bs (axis_in RowMajor (length ns) q) 0 ≡ block_in RowMajor ns q)

row-dot : (ns bs is : List ℕ) → length bs ≡ length ns → ((k : ℕ) → k < length ns → (get_or ns k 0 ≡ 1) ⊎ (get_or bs k 0 ≡ size (drop (suc k) ns))) → InBox ns is → dot bs is ≡ rank ns is
unfolding dot rank
row-dot [] [] is l h b = refl
row-dot [] (s ∷ bs) is l h b = absurd (omega arith)
row-dot (n ∷ ns) [] is l h b = absurd (omega arith)
row-dot (n ∷ ns) (s ∷ bs) [] l h b = absurd b
row-dot (n ∷ ns) (s ∷ bs) (i ∷ is) l h b =
    let ih = row-dot ns bs is (omega arith) (λ k lt. h (suc k) (omega arith)) b.1 in
    let e : i * s ≡ i * size ns = elim (h 0 (omega arith)) [
      | inl one ↦ (let z : i ≡ 0 = omega (arith, one, b.0) in ap (λ x. x * s) z ∙ (zero-mul s ∙ sym (ap (λ x. x * size ns) z ∙ zero-mul (size ns))))
      | inr same ↦ ap (λ x. i * x) same
    ] in
    omega arith

dot-follows : (ns bs is : List ℕ) → length bs ≡ length ns → ((q : ℕ) → q < length ns → IsContiguousAt ns bs q) → InBox ns is → dot bs is ≡ rank ns is
dot-follows ns bs is l h b =
    row-dot ns bs is l
    (λ k lt.
    let q : length ns - 1 - (length ns - 1 - k) ≡ k = omega arith in
    let q2 : length ns - (length ns - 1 - k) ≡ suc k = omega arith in
    elim (h (length ns - 1 - k) (omega arith)) [
      | inl one ↦ inl (ap (λ x. get_or ns x 0) (sym q) ∙ one)
      | inr same ↦ inr (ap (λ x. get_or bs x 0) (sym q) ∙ (same ∙ ap (λ x. size (drop x ns)) q2))
    ])
    b

-- where no place comes before the start, cells that lie side by side are counted from there
pub place-follows : (ns bs : List ℕ) (start : ℕ) → length bs ≡ length ns → ((q : ℕ) → q < length ns → IsContiguousAt ns bs q) → start + size ns ≤ 2 ^ 64 → (is : List ℕ) → InBox ns is → place start bs is ≡ start + rank ns is
unfolding place
place-follows ns bs start l h room is b =
    let d = dot-follows ns bs is l h b in
    let lt = rank-lt ns is b in
    omega arith

-- ---- where the cells lie side by side, the strides follow

parts-positive : (n t : ℕ) → 0 < n * t → (0 < n) × (0 < t)
parts-positive zero t h = absurd (omega (arith, h, zero-mul t))
parts-positive (suc n) zero h = absurd (omega (arith, h, mul-zero (suc n)))
parts-positive (suc n) (suc t) h = (omega arith, omega arith)

pub first-index : (ns bs : List ℕ) → length bs ≡ length ns → 0 < size ns → (is : List ℕ) × (InBox ns is × ((dot bs is ≡ 0) × (rank ns is ≡ 0)))
unfolding dot rank
first-index [] [] l some = ([], (tt, (refl, refl)))
first-index [] (b ∷ bs) l some = absurd (omega arith)
first-index (n ∷ ns) [] l some = absurd (omega arith)
first-index (n ∷ ns) (b ∷ bs) l some =
    let pos = parts-positive n (size ns) some in
    let rest = first-index ns bs (omega arith) pos.1 in
    (0 ∷ rest.0, ((pos.0, rest.1.0), (omega (arith, rest.1.1.0), omega (arith, rest.1.1.1))))

-- the index list that is 1 at one axis and 0 at all others
index-beside : (ns bs : List ℕ) (k : ℕ) → length bs ≡ length ns → 0 < size ns → k < length ns → get_or ns k 0 ≢ 1
    → (is : List ℕ) × (InBox ns is × ((dot bs is ≡ get_or bs k 0) × (rank ns is ≡ size (drop (suc k) ns))))
unfolding dot rank
index-beside [] bs k l some lt ne = absurd (omega arith)
index-beside (n ∷ ns) [] k l some lt ne = absurd (omega arith)
index-beside (n ∷ ns) (b ∷ bs) zero l some lt ne =
    let pos = parts-positive n (size ns) some in
    let rest = first-index ns bs (omega arith) pos.1 in
    (1 ∷ rest.0, ((omega (arith, ne, pos.0), rest.1.0), (omega (arith, rest.1.1.0), omega (arith, rest.1.1.1))))
index-beside (n ∷ ns) (b ∷ bs) (suc k) l some lt ne =
    let pos = parts-positive n (size ns) some in
    let rest = index-beside ns bs k (omega arith) pos.1 (omega arith) ne in
    (0 ∷ rest.0, ((pos.0, rest.1.0), (omega (arith, rest.1.1.0), omega (arith, rest.1.1.1))))

module _ (ns bs : List ℕ) (start : ℕ) (l : length bs ≡ length ns) (some : 0 < size ns) (beside : (is : List ℕ) → InBox ns is → place start bs is ≡ start + rank ns is) where
  pub stride-follows : (k : ℕ) → k < length ns → get_or ns k 0 ≢ 1 → get_or bs k 0 < 2 ^ 64 → get_or bs k 0 ≡ size (drop (suc k) ns)
  unfolding place
  stride-follows k lt ne fits =
      let u = index-beside ns bs k l some lt ne in
      let h = beside u.0 u.1.0 in
      omega (arith, h, u.1.1.0, u.1.1.1)

  pub last-fits : start + (size ns - 1) < 2 ^ 64
  unfolding place
  last-fits =
      let back = row_order-back ns (size ns - 1) [] (omega arith) in
      let h = beside (get_or (row_order ns) (size ns - 1) []) back.0 in
      omega (arith, h, back.1)

column-dot : (c : ℕ) (ns bs is : List ℕ) → length bs ≡ length ns → ((k : ℕ) → k < length ns → get_or bs k 0 ≡ c * size (take k ns)) → InBox ns is → dot bs is ≡ c * column_rank ns is
unfolding dot column_rank
column-dot c [] [] is l h b = omega arith
column-dot c [] (s ∷ bs) is l h b = absurd (omega arith)
column-dot c (n ∷ ns) [] is l h b = absurd (omega arith)
column-dot c (n ∷ ns) (s ∷ bs) [] l h b = absurd b
column-dot c (n ∷ ns) (s ∷ bs) (i ∷ is) l h b =
    let ih = column-dot (c * n) ns bs is (omega arith) (λ k lt. h (suc k) (omega arith) ∙ omega arith) b.1 in
    let e : i * s ≡ i * (c * 1) = ap (λ x. i * x) (h 0 (omega arith)) in
    omega arith

pub dot-strides : (o : Order) (ns bs is : List ℕ) → AreStridesOf o ns bs → InBox ns is → dot bs is ≡ rank_in o ns is
dot-strides RowMajor ns bs is h b = dot-follows ns bs is h.as_many (λ q lt. inr (h.each q lt)) b
dot-strides ColumnMajor ns bs is h b =
    column-dot 1 ns bs is h.as_many (λ k lt. h.each k lt ∙ omega arith) b ∙ omega arith

module _ (o : Order) (ns bs : List ℕ) (h : AreStridesOf o ns bs) (limit : nonzero_size ns < 2 ^ 63) where
  pub place-strides : (is : List ℕ) → InBox ns is → place 0 bs is ≡ rank_in o ns is
  unfolding place
  place-strides is b =
      let d = dot-strides o ns bs is h b in
      let lt = rank_in-lt o ns is b in
      let le = size-le ns in
      omega arith

  pub Reaches-strides : {A : Type 0} (one : Type 0) (at : ℕ → Option A) → ((k : ℕ) → k < size ns → IsTrue (is_some (at k))) → Reaches one at ns 0 bs
  Reaches-strides one at room = record {
    as_many = h.as_many;
    limit = limit;
    inside = λ is b. let e = place-strides is b in let lt = rank_in-lt o ns is b in room (place 0 bs is) (omega arith);
    nested = λ _ some. nested-strides o ns bs h some limit;
  }

  -- the cells in the order are the slice's first elements
  pub cells-strides : {A : Type 0} (xs : List A) → size ns ≤ length xs → map (cell (grid_at (slice_get xs) ns 0 bs)) (box_in o ns) ≡ map Some (take (size ns) xs)
  cells-strides {A} xs room =
      let l = length-box_in o ns in
      let lt = length-take-le (size ns) xs room in
      let v : Grid A = grid_at (slice_get xs) ns 0 bs in
      let len1 = length-map (box_in o ns) (cell v) in
      let len2 = length-map (take (size ns) xs) (λ x. Some x) in
      same_from_slice_get (map (cell v) (box_in o ns)) (map Some (take (size ns) xs)) (omega arith)
      (λ k below.
      let b = box_in-back o ns k (omega arith) in
      let s = slice_get-Some xs k (omega arith) in
      let is : List ℕ = get_or (box_in o ns) k [] in
      slice_get-map (cell v) (box_in o ns) k
      ∙ (ap (option_map (cell v)) (slice_get-get_or (box_in o ns) k [] (omega arith))
      ∙ (ap Some (cell-at (slice_get xs) ns 0 bs (Reaches-strides ⊥ (slice_get xs) (λ j lt. filled-slice xs j (omega arith))) is b.0 ∙ (ap (slice_get xs) (place-strides is b.0 ∙ b.1) ∙ s.1))
      ∙ sym (slice_get-map Some (take (size ns) xs) k ∙ (ap (option_map Some) (slice_get-take (size ns) xs k (omega arith) ∙ s.1))))))

pub Reaches-slice : (o : Order) (ns bs : List ℕ) → AreStridesOf o ns bs → nonzero_size ns < 2 ^ 63 → {A : Type 0} (one : Type 0) (at : ℕ → Option A) (xs : List A) → ((p : ℕ) → at p ≡ slice_get xs p) → size ns ≤ length xs → Reaches one at ns 0 bs
Reaches-slice o ns bs h limit one at xs e room = Reaches-strides o ns bs h limit one at (λ k lt. subst (λ y. IsTrue (is_some y)) (sym (e k)) (filled-slice xs k (omega arith)))

pub cells-slice : (o : Order) (ns bs : List ℕ) → AreStridesOf o ns bs → nonzero_size ns < 2 ^ 63 → {A : Type 0} (at : ℕ → Option A) (xs : List A) → ((p : ℕ) → at p ≡ slice_get xs p) → size ns ≤ length xs → map (cell (grid_at at ns 0 bs)) (box_in o ns) ≡ map Some (take (size ns) xs)
cells-slice o ns bs h limit at xs e room = ap (λ g. map (cell g) (box_in o ns)) (grid_at-same at (slice_get xs) ns 0 bs e) ∙ cells-strides o ns bs h limit xs room

pub cells_in-slice : (o : Order) (ns bs : List ℕ) → AreStridesOf o ns bs → nonzero_size ns < 2 ^ 63 → {A : Type 0} (at : ℕ → Option A) (xs : List A) → ((p : ℕ) → at p ≡ slice_get xs p) → size ns ≤ length xs → cells_in o (grid_at at ns 0 bs) ≡ take (size ns) xs
cells_in-slice o ns bs h limit at xs e room = filter_map-from_map (cell (grid_at at ns 0 bs)) (box_in o ns) (take (size ns) xs) (cells-slice o ns bs h limit at xs e room)
