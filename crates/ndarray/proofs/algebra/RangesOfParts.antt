-- What may be summed of an array may be summed of its parts.
use Rattle.std.proofs.Common.{◌≡◌, ◌≢◌, ◌∙◌, ℕ, suc, ◌+◌, ◌-◌, ◌*◌, ◌<◌, ◌≤◌, Bool, inl, inr, List, [], ◌∷◌, length, map, set, get_or, insert, remove, ap, sym, refl, arith, subst}
use Rattle.std.specs.Prelude.{All, AllPairs, ℤ, pos, negsuc, slice_get, unsigned_abs}
use Rattle.std.proofs.Math.Nat.{mul-le-mul_right, suc-mul}
use Rattle.std.proofs.lemmas.Bool.{cases_lt}
use Rattle.std.proofs.lemmas.List.{get_or-set_same, length-set, set-get_or, set-set}
use Rattle.std.proofs.lemmas.List.Edits.{length-remove}
use Rattle.std.proofs.lemmas.List.Elements.{All-map}
use Rattle.std.proofs.lemmas.Simd.{map-map}
use Rattle.ndarray.specs.Algebra.{CommutativeMonoid}
use Rattle.ndarray.specs.Grid.{Grid, IsGrid, cell, cells_by, tabulate}
use Rattle.ndarray.specs.Index.{InBox, IsBefore, row_order}
use Rattle.ndarray.specs.RangeLaws.{ChunksStayInRange, ItemsStayInRange, LanesStayInRange, PartsStayInRange, SlicesStayInRange, WindowsStayInRange}
use Rattle.ndarray.specs.Slices.{slice_end, slice_index_at, slice_length, slice_start, step_index}
use Rattle.ndarray.specs.Subviews.{chunk_counts, exact_chunks_of, window, window_counts, window_index, windows_of}
use Rattle.ndarray.specs.Sums.{IsSummableBy, select, total}
use Rattle.ndarray.specs.Views.{axis_item, axis_part}
use Rattle.ndarray.specs.base.Ranks.{rank}
use Rattle.ndarray.proofs.algebra.Totals.{value_of}
use Rattle.ndarray.proofs.boxes.Boxes.{InBox-get, InBox-length, InBox-set_both}
use Rattle.ndarray.proofs.boxes.Orders.{IsBefore-not_itself, rank-lt, row_order-at, row_order-is}
use Rattle.ndarray.proofs.callers.Collecting.{array_by-at}
use Rattle.ndarray.proofs.callers.Lanes.{lanes-summable}
use Rattle.ndarray.proofs.cells.Cells.{cell-Some, cell-inside, cell-within}
use Rattle.ndarray.proofs.lists.Elements.{map-same, remove-inserted}
use Rattle.ndarray.proofs.lists.Pairs.{AllPairs-map}
use Rattle.ndarray.proofs.pieces.OneAxisWindows.{window_counts-chunks}
use Rattle.ndarray.proofs.pieces.Windows.{length-window_counts, window-inside}
use Rattle.ndarray.proofs.sums.SelectedPlaces.{found-selected, places-selected, select-all, select-pairs}
use Rattle.ndarray.proofs.views.Items.{InBox-insert}
use Rattle.ndarray.proofs.views.Slices.{reached, size-pos, slice-ends, step_index-below}

-- products by one factor that are the same
factor-once : (i j m : ℕ) → 0 < m → i * m ≡ j * m → i ≡ j
factor-once i j m some e = elim (cases_lt i j) [
  | inl lt ↦ absurd (let le : suc i * m ≤ j * m = mul-le-mul_right m (omega (arith, lt)) in let more = suc-mul i m in omega (arith, le, more, e, some))
  | inr ge ↦ elim (cases_lt j i) [
    | inl lt ↦ absurd (let le : suc j * m ≤ i * m = mul-le-mul_right m (omega (arith, lt)) in let more = suc-mul j m in omega (arith, le, more, e, some))
    | inr le ↦ omega (arith, ge, le)
  ]
]

-- a slice takes an index once
step_index-once : (a b i j : ℕ) (step : ℤ) → step ≢ pos 0 → i * unsigned_abs step < b - a → j * unsigned_abs step < b - a → step_index a b step i ≡ step_index a b step j → i ≡ j
step_index-once a b i j (pos k) other low high e = factor-once i j k (size-pos (pos k) other) (omega (arith, e))
step_index-once a b i j (negsuc k) other low high e = factor-once i j (suc k) (size-pos (negsuc k) other) (omega (arith, e, low, high))

-- the same rank is the same index list
rank-once : (ns is js : List ℕ) → InBox ns is → InBox ns js → rank ns is ≡ rank ns js → is ≡ js
rank-once ns is js b c e = sym (row_order-at ns is [] b) ∙ (ap (λ k. get_or (row_order ns) k []) e ∙ row_order-at ns js [] c)

module _ {A C : Type 0} (M : CommutativeMonoid C) (in_range : C → Type 0) (value : A → C) (g : Grid A) (whole : IsGrid g) (sums : IsSummableBy M in_range value g.cells) where
  -- an array of a box whose cells are cells of another at different index lists
  module _ (ns : List ℕ) (from : List ℕ → List ℕ) (within : (is : List ℕ) → InBox ns is → InBox g.lengths (from is))
      (once : (is js : List ℕ) → InBox ns is → InBox ns js → from is ≡ from js → is ≡ js) where
    abbrev place : List ℕ → ℕ
    place is = rank g.lengths (from is)

    box : All (InBox ns) (row_order ns)
    box = (row_order-is ns).within

    abbrev kept : (ℕ → Bool) → List (List ℕ)
    kept keep = select keep (row_order ns)

    kept-box : (keep : ℕ → Bool) → All (InBox ns) (kept keep)
    kept-box keep = select-all (InBox ns) (row_order ns) keep box

    different : (keep : ℕ → Bool) → AllPairs ◌≢◌ (map place (kept keep))
    different keep = AllPairs-map ◌≢◌ place (kept keep) each
      where
        each : AllPairs (λ is js. place is ≢ place js) (kept keep)
        each i j d lt below e =
            let b = kept-box keep i d (omega (arith, lt, below)) in
            let c = kept-box keep j d below in
            let same = once (get_or (kept keep) i d) (get_or (kept keep) j d) b c (rank-once g.lengths (from (get_or (kept keep) i d)) (from (get_or (kept keep) j d)) (within (get_or (kept keep) i d) b) (within (get_or (kept keep) j d) c) e) in
            let before = select-pairs IsBefore (row_order ns) keep (row_order-is ns).rising i j d lt below in
            IsBefore-not_itself (get_or (kept keep) j d) (subst (λ is. IsBefore is (get_or (kept keep) j d)) same before)

    pub part-summable : IsSummableBy M in_range value (tabulate ns (λ is. cell g (from is))).cells
    unfolding cells_by
    part-summable keep =
        let there = places-selected M value g.cells (map place (kept keep)) (different keep)
        (All-map (λ p. p < length g.cells) place (kept keep) (λ k d lt. subst (λ n. place (get_or (kept keep) k d) < n) (sym whole) (rank-lt g.lengths (from (get_or (kept keep) k d)) (within (get_or (kept keep) k d) (kept-box keep k d lt))))) in
        subst in_range
        (there.same
        ∙ (ap (total M) (map-map (λ p. value_of M value (slice_get g.cells p)) place (kept keep))
        ∙ (ap (total M) (map-same (λ is. value_of M value (slice_get g.cells (place is))) (λ is. value_of M value (cell g (from is))) (InBox ns) (kept keep)
        (λ is b. ap (value_of M value) (sym (cell-within g whole (from is) (within is b)))) (kept-box keep))
        ∙ sym (found-selected M value (λ is. cell g (from is)) (row_order ns) (λ k d lt. cell-Some g whole (from (get_or (row_order ns) k d)) (within (get_or (row_order ns) k d) (box k d lt))) keep))))
        (sums there.keep)

  -- ---- parts, slices, items

  module _ (axis : ℕ) (lt : axis < length g.lengths) where
    abbrev n : ℕ
    n = get_or g.lengths axis 0

    -- some of the indices along the axis, each once
    along : (len : ℕ) (index : ℕ → ℕ) → ((i : ℕ) → i < len → index i < n) → ((i j : ℕ) → i < len → j < len → index i ≡ index j → i ≡ j)
        → IsSummableBy M in_range value (tabulate (set g.lengths axis len) (λ is. cell g (set is axis (index (get_or is axis 0))))).cells
    along len index below one = part-summable (set g.lengths axis len) (λ is. set is axis (index (get_or is axis 0))) inside different_lists
      where
        at : (is : List ℕ) → InBox (set g.lengths axis len) is → get_or is axis 0 < len
        at is b =
            let many = length-set g.lengths axis len in
            let room = get_or-set_same g.lengths axis len 0 lt in
            let there = InBox-get (set g.lengths axis len) is axis b (omega (arith, many, lt)) in
            omega (arith, room, there)

        inside : (is : List ℕ) → InBox (set g.lengths axis len) is → InBox g.lengths (set is axis (index (get_or is axis 0)))
        inside is b = subst (λ ns. InBox ns (set is axis (index (get_or is axis 0)))) (set-set g.lengths axis len n ∙ set-get_or g.lengths axis 0)
            (InBox-set_both (set g.lengths axis len) is axis n (index (get_or is axis 0)) b (below (get_or is axis 0) (at is b)))

        different_lists : (is js : List ℕ) → InBox (set g.lengths axis len) is → InBox (set g.lengths axis len) js → set is axis (index (get_or is axis 0)) ≡ set js axis (index (get_or js axis 0)) → is ≡ js
        different_lists is js b c e =
            let many = length-set g.lengths axis len in
            let long = InBox-length (set g.lengths axis len) is b in
            let also_long = InBox-length (set g.lengths axis len) js c in
            let same : get_or is axis 0 ≡ get_or js axis 0 =
            one (get_or is axis 0) (get_or js axis 0) (at is b) (at js c)
            (sym (get_or-set_same is axis (index (get_or is axis 0)) 0 (omega (arith, many, long, lt))) ∙ (ap (λ ks. get_or ks axis 0) e ∙ get_or-set_same js axis (index (get_or js axis 0)) 0 (omega (arith, many, also_long, lt)))) in
            sym (set-set is axis (index (get_or is axis 0)) (get_or is axis 0) ∙ set-get_or is axis 0)
            ∙ (ap (λ ks. set ks axis (get_or is axis 0)) e
            ∙ (set-set js axis (index (get_or js axis 0)) (get_or is axis 0) ∙ (ap (set js axis) same ∙ set-get_or js axis 0)))

    pub axis_part-summable : (from to : ℕ) → from ≤ to → to ≤ n → IsSummableBy M in_range value (axis_part g axis from to).cells
    axis_part-summable from to up most = along (to - from) (λ i. from + i) (λ i below. omega (arith, up, most, below)) (λ i j below also e. omega (arith, e))

    pub axis_item-summable : (i : ℕ) → i < n → IsSummableBy M in_range value (axis_item g axis i).cells
    axis_item-summable i below = part-summable (remove g.lengths axis) (λ is. insert is axis i) (λ is b. InBox-insert g.lengths is axis i lt below b)
        (λ is js b c e.
        let fewer = length-remove g.lengths axis lt in
        let long = InBox-length (remove g.lengths axis) is b in
        let also_long = InBox-length (remove g.lengths axis) js c in
        sym (remove-inserted is axis i (omega (arith, fewer, long, lt))) ∙ (ap (λ ks. remove ks axis) e ∙ remove-inserted js axis i (omega (arith, fewer, also_long, lt))))

  -- a window, of any lengths
  pub window-summable : (ws ss ps : List ℕ) → length ws ≡ length g.lengths → length ss ≡ length g.lengths → InBox (window_counts g.lengths ws ss) ps → IsSummableBy M in_range value (window g ws ss ps).cells
  window-summable ws ss ps same steps b = part-summable ws (window_index ss ps) (λ js c. window-inside g.lengths ws ss ps js same steps b c) (λ is js c d e. once ss ps ws is js (as_many g.lengths ws ss ps same steps b) c d e)
    where
      as_many : (ns ws ss ps : List ℕ) → length ws ≡ length ns → length ss ≡ length ns → InBox (window_counts ns ws ss) ps → (length ss ≡ length ws) × (length ps ≡ length ws)
      as_many ns ws ss ps same steps b =
          let counts = length-window_counts ns ws ss same steps in
          let long = InBox-length (window_counts ns ws ss) ps b in
          (omega (arith, same, steps), omega (arith, counts, long, same))

      once : (ss ps ws is js : List ℕ) → (length ss ≡ length ws) × (length ps ≡ length ws) → InBox ws is → InBox ws js → window_index ss ps is ≡ window_index ss ps js → is ≡ js
      once ss ps [] [] [] long c d e = refl
      once ss ps [] [] (j ∷ js) long c d e = absurd d
      once ss ps [] (i ∷ is) js long c d e = absurd c
      once ss ps (w ∷ ws) [] js long c d e = absurd c
      once ss ps (w ∷ ws) (i ∷ is) [] long c d e = absurd d
      once [] ps (w ∷ ws) (i ∷ is) (j ∷ js) long c d e = let l = long.0 in absurd (omega (arith, l))
      once (s ∷ ss) [] (w ∷ ws) (i ∷ is) (j ∷ js) long c d e = let l = long.1 in absurd (omega (arith, l))
      once (s ∷ ss) (p ∷ ps) (w ∷ ws) (i ∷ is) (j ∷ js) long c d e =
          let here : p * s + i ≡ p * s + j = ap (λ ks. get_or ks 0 0) e in
          let same : i ≡ j = omega (arith, here) in
          let l = long.0 in
          let m = long.1 in
          ap (λ k. k ∷ is) same ∙ ap (λ ks. j ∷ ks) (once ss ps ws is js (omega (arith, l), omega (arith, m)) c.1 d.1 (ap (λ ks. remove ks 0) e))

module _ {A C : Type 0} (M : CommutativeMonoid C) (in_range : C → Type 0) (value : A → C) where
  pub parts-stay : PartsStayInRange M in_range value
  parts-stay g axis from to whole lt up most sums = axis_part-summable M in_range value g whole sums axis lt from to up most

  pub items-stay : ItemsStayInRange M in_range value
  items-stay g axis i whole lt below sums = axis_item-summable M in_range value g whole sums axis lt i below

  pub lanes-stay : LanesStayInRange M in_range value
  lanes-stay g axis whole lt sums = lanes-summable g whole axis lt M in_range value sums

  pub slices-stay : SlicesStayInRange M in_range value
  slices-stay g axis s whole lt is_slice sums =
      let n : ℕ = get_or g.lengths axis 0 in
      let a : ℕ = unsigned_abs (slice_start n s) in
      let b : ℕ = unsigned_abs (slice_end n s) in
      let e = slice-ends n s is_slice in
      along M in_range value g whole sums axis lt (slice_length n s) (slice_index_at n s)
      (λ i below. step_index-below a b n i s.step e.order e.high (reached n s is_slice i below))
      (λ i j below also same. step_index-once a b i j s.step is_slice.step (reached n s is_slice i below) (reached n s is_slice j also) same)

  pub windows-stay : WindowsStayInRange M in_range value
  windows-stay g ws steps whole lengths positive sums ps w here =
      let inside = cell-inside (windows_of g ws steps) ps w here in
      let is_window : w ≡ window g ws steps ps = array_by-at (window_counts g.lengths ws steps) (window g ws steps) (windows_of g ws steps) ps w refl inside here in
      subst (λ v. IsSummableBy M in_range value v.cells) (sym is_window) (window-summable M in_range value g whole sums ws steps ps lengths.as_many positive.as_many inside)

  pub chunks-stay : ChunksStayInRange M in_range value
  chunks-stay g cs whole positive sums ps w here =
      let inside = cell-inside (exact_chunks_of g cs) ps w here in
      let is_chunk : w ≡ window g cs cs ps = array_by-at (chunk_counts g.lengths cs) (window g cs cs) (exact_chunks_of g cs) ps w refl inside here in
      subst (λ v. IsSummableBy M in_range value v.cells) (sym is_chunk)
      (window-summable M in_range value g whole sums cs cs ps positive.as_many positive.as_many (subst (λ ns. InBox ns ps) (sym (window_counts-chunks g.lengths cs positive.as_many positive.positive)) inside))
