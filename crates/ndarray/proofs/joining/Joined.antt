-- The blocks of several arrays, one after another, are the arrays joined along an axis, and those stacked.
use Rattle.std.proofs.Common.{◌≡◌, ℕ, ◌+◌, ◌*◌, ◌-◌, ◌<◌, ◌≤◌, suc, List, [], ◌∷◌, ◌++◌, Some, None, length, drop, set, get_or, insert, remove, inl, inr, refl, sym, ◌∙◌, ap, arith, subst}
use Rattle.std.specs.Prelude.{◌^◌, nat_lt, not, slice_get, sum_by, option_and_then, All, if◌then◌else◌}
use Rattle.std.specs.List.{list_all}
use Rattle.std.proofs.lemmas.Bool.{cases_lt, lt-ltb, le-ltb, ltb-false, ltb-true}
use Rattle.std.proofs.lemmas.Nat.{mul-le}
use Rattle.std.proofs.lemmas.List.{drop-set, drop-set-lt, get_or-set_same, length-map, length-set, set-get_or, set-set}
use Rattle.std.proofs.lemmas.List.Edits.{get_or-insert_at, length-insert}
use Rattle.std.proofs.lemmas.List.Elements.{All-cons, All-head, All-tail}
use Rattle.std.proofs.lemmas.List.Sums.{sum_by-cons}
use Rattle.std.proofs.lemmas.Option.{slice_get-get_or}
use Rattle.std.proofs.Math.Seq.{drop-cons}
use Rattle.ndarray.specs.Grid.{Grid, IsGrid, cell, grid, same_index, tabulate}
use Rattle.ndarray.specs.Index.{InBox, row_order, size}
use Rattle.ndarray.specs.Joining.{concatenate_error, concatenation, concatenation_cell, concatenation_lengths, is_same_but_along, is_within_limit, shapes_of, stack_error, stack_of, stack_cell, stack_lengths}
use Rattle.ndarray.specs.Limits.{nonzero_size}
use Rattle.ndarray.specs.declared.base.error.ErrorKind.TheVariants.{IncompatibleShape, RangeLimited, OutOfBounds, Overflow}
use Rattle.ndarray.specs.base.Ranks.{rank}
use Rattle.ndarray.specs.stacking.Blocks.{HasBlockAt, JoinsAs, MayJoin, all_blocks, block_at, blocks_at, outer_lengths}
use Rattle.ndarray.proofs.boxes.Boxes.{InBox-drop, InBox-get, InBox-length, InBox-removed, InBox-set_both}
use Rattle.ndarray.proofs.boxes.Orders.{length-row_order, rank-lt, row_order-at, row_order-is}
use Rattle.ndarray.proofs.cells.Cells.{cell-within, tabulate-is}
use Rattle.ndarray.proofs.joining.Blocks.{length-blocks, length-part, length-same_blocks, slice_get-first, slice_get-rest, slice_get-same_blocks}
use Rattle.ndarray.proofs.joining.Errors.{each-but_along, each-same, if-none, not-false}
use Rattle.ndarray.proofs.joining.OuterAxes.{InBox-inner, InBox-other, InBox-outer, block-fits, outer-set, outer_index, outer_index-set, rank-below, rank-insert, rank-set, size-insert, size-set}
use Rattle.ndarray.proofs.runs.OneAxisProducers.{slice_get-part}
use Rattle.ndarray.proofs.lists.Elements.{remove-inserted}

parted : (w v i s : ℕ) → w + v ≡ i → i * s ≡ v * s + w * s
parted w v i s e = let r = ap (λ x. x * s) e in omega arith

module _ (a : ℕ) (ns : List ℕ) (below : a < length ns) where
  drop-here : (v : ℕ) → drop a (set ns a v) ≡ v ∷ drop (suc a) ns
  drop-here v = let next : a + 1 ≡ suc a = omega arith in drop-set ns a v below ∙ ap (λ n. v ∷ drop n ns) next

  rank-here : (v : ℕ) (is : List ℕ) → length is ≡ length ns → rank (drop a (set ns a v)) (drop a is) ≡ get_or is a 0 * size (drop (suc a) ns) + rank (drop (suc a) ns) (drop (suc a) is)
  unfolding rank
  rank-here v is l = ap (λ ms. rank ms (drop a is)) (drop-here v) ∙ ap (rank (v ∷ drop (suc a) ns)) (drop-cons is a 0 (omega arith))

module _ {A : Type 0} (a : ℕ) where
  -- ---- one block

  length-block : (g : Grid A) (ps : List ℕ) → IsGrid g → InBox (outer_lengths a g.lengths) ps → length (block_at a ps g) ≡ size (drop a g.lengths)
  length-block g ps whole b = let f = block-fits a g.lengths ps b in length-part g.cells (rank g.lengths ps) (size (drop a g.lengths)) (omega (arith, f, whole))

  -- what stands in it
  block-cell : (g : Grid A) (is : List ℕ) → IsGrid g → InBox g.lengths is → slice_get (block_at a (outer_index a is) g) (rank (drop a g.lengths) (drop a is)) ≡ cell g is
  block-cell g is whole b =
      let ps : List ℕ = outer_index a is in
      let f = block-fits a g.lengths ps (InBox-outer a g.lengths is b) in
      let lt = rank-lt (drop a g.lengths) (drop a is) (InBox-drop a g.lengths is b) in
      slice_get-part g.cells (size (drop a g.lengths)) (rank g.lengths ps) (rank (drop a g.lengths) (drop a is)) lt (omega (arith, f, whole))
      ∙ (ap (slice_get g.cells) (sym (rank-below a g.lengths is (InBox-length g.lengths is b))) ∙ sym (cell-within g whole is b))

  HasBlockAt-outer : (g : Grid A) (ps : List ℕ) → a ≤ length g.lengths → InBox (outer_lengths a g.lengths) ps → HasBlockAt a ps g
  HasBlockAt-outer g ps le b = record {
    below = le;
    within = λ some. InBox-inner a g.lengths ps b some;
    fits = λ some. block-fits a g.lengths ps b;
  }

  -- ---- along an axis

  module _ (ns : List ℕ) (below : a < length ns) where
    size-here : (g : Grid A) → g.lengths ≡ set ns a (get_or g.lengths a 0) → size (drop a g.lengths) ≡ get_or g.lengths a 0 * size (drop (suc a) ns)
    size-here g e = ap (λ ms. size (drop a ms)) e ∙ ap size (drop-here a ns below (get_or g.lengths a 0))

    outer-here : (g : Grid A) → g.lengths ≡ set ns a (get_or g.lengths a 0) → outer_lengths a g.lengths ≡ outer_lengths a ns
    outer-here g e = ap (outer_lengths a) e ∙ outer-set a (get_or g.lengths a 0) ns

    length-here : (g : Grid A) (ps : List ℕ) → IsGrid g → g.lengths ≡ set ns a (get_or g.lengths a 0) → InBox (outer_lengths a ns) ps → length (block_at a ps g) ≡ get_or g.lengths a 0 * size (drop (suc a) ns)
    length-here g ps whole e b = length-block g ps whole (subst (λ ms. InBox ms ps) (sym (outer-here g e)) b) ∙ size-here g e

    concatenation-at : (gs : List (Grid A)) → All IsGrid gs → All (λ g. g.lengths ≡ set ns a (get_or g.lengths a 0)) gs → (is : List ℕ) (n : ℕ) → InBox (set ns a n) is → get_or is a 0 < sum_by (λ g. get_or g.lengths a 0) gs
        → slice_get (blocks_at a (outer_index a is) gs) (get_or is a 0 * size (drop (suc a) ns) + rank (drop (suc a) ns) (drop (suc a) is)) ≡ concatenation_cell a gs is
    concatenation-at [] whole each is n b lt = absurd (omega arith)
    concatenation-at (g ∷ gs) whole each is n b lt =
        let v : ℕ = get_or g.lengths a 0 in
        let i : ℕ = get_or is a 0 in
        let q : ℕ = rank (drop (suc a) ns) (drop (suc a) is) in
        let ps : List ℕ = outer_index a is in
        let e = All-head (λ h. h.lengths ≡ set ns a (get_or h.lengths a 0)) g gs each in
        let w = All-head IsGrid g gs whole in
        let ls = length-set ns a n in
        let l : length is ≡ length ns = InBox-length (set ns a n) is b ∙ ls in
        let outer : InBox (outer_lengths a ns) ps = subst (λ ms. InBox ms ps) (outer-set a n ns) (InBox-outer a (set ns a n) is b) in
        let long = length-here g ps w e outer in
        let behind : InBox (drop (suc a) ns) (drop (suc a) is) = subst (λ ms. InBox ms (drop (suc a) is)) (drop-set-lt (suc a) ns a n (omega arith)) (InBox-drop (suc a) (set ns a n) is b) in
        let q-lt : q < size (drop (suc a) ns) = rank-lt (drop (suc a) ns) (drop (suc a) is) behind in
        elim (cases_lt i v) [
          | inl here ↦
              (let there : InBox g.lengths is = subst (λ ms. InBox ms is) (sym e) (InBox-other ns is a n v b here) in
              let m : suc i * size (drop (suc a) ns) ≤ v * size (drop (suc a) ns) = mul-le (suc i) (size (drop (suc a) ns)) v (size (drop (suc a) ns)) here (omega arith) in
              let s : suc i * size (drop (suc a) ns) ≡ i * size (drop (suc a) ns) + size (drop (suc a) ns) = omega arith in
              let place : i * size (drop (suc a) ns) + q ≡ rank (drop a g.lengths) (drop a is) = sym (rank-here a ns below v is l) ∙ ap (λ ms. rank (drop a ms) (drop a is)) (sym e) in
              slice_get-first (block_at a ps g) (blocks_at a ps gs) (i * size (drop (suc a) ns) + q) (omega (arith, long, m, s, q-lt))
              ∙ (ap (slice_get (block_at a ps g)) place
              ∙ (block-cell g is w there ∙ sym (ap (λ t. if t then cell g is else concatenation_cell a gs (set is a (i - v))) (lt-ltb i v here)))))
          | inr other ↦
              (let js : List ℕ = set is a (i - v) in
              let sum = sum_by-cons (λ h. get_or h.lengths a 0) g gs in
              let index : get_or js a 0 ≡ i - v = get_or-set_same is a (i - v) 0 (omega (arith, l, below)) in
              let m : v * size (drop (suc a) ns) ≤ i * size (drop (suc a) ns) = mul-le v (size (drop (suc a) ns)) i (size (drop (suc a) ns)) other (omega arith) in
              let split : i * size (drop (suc a) ns) ≡ v * size (drop (suc a) ns) + (i - v) * size (drop (suc a) ns) = parted (i - v) v i (size (drop (suc a) ns)) (omega (arith, other)) in
              let drops : drop (suc a) js ≡ drop (suc a) is = drop-set-lt (suc a) is a (i - v) (omega arith) in
              let there : get_or js a 0 * size (drop (suc a) ns) + rank (drop (suc a) ns) (drop (suc a) js) ≡ (i - v) * size (drop (suc a) ns) + q = ap (λ x. x * size (drop (suc a) ns) + rank (drop (suc a) ns) (drop (suc a) js)) index ∙ ap (λ ks. (i - v) * size (drop (suc a) ns) + rank (drop (suc a) ns) ks) drops in
              let box : InBox (set ns a (suc (i - v))) js = subst (λ ms. InBox ms js) (set-set ns a n (suc (i - v))) (InBox-set_both (set ns a n) is a (suc (i - v)) (i - v) b (omega arith)) in
              let ih = concatenation-at gs (All-tail IsGrid g gs whole) (All-tail (λ h. h.lengths ≡ set ns a (get_or h.lengths a 0)) g gs each) js (suc (i - v)) box (omega (arith, index, sum, lt, other)) in
              ap (slice_get (block_at a ps g ++ blocks_at a ps gs)) (let p : i * size (drop (suc a) ns) + q ≡ length (block_at a ps g) + ((i - v) * size (drop (suc a) ns) + q) = omega (arith, long, split) in p)
              ∙ (slice_get-rest (block_at a ps g) (blocks_at a ps gs) ((i - v) * size (drop (suc a) ns) + q)
              ∙ (ap (slice_get (blocks_at a ps gs)) (sym there)
              ∙ (ap (λ xs. slice_get (blocks_at a xs gs) (get_or js a 0 * size (drop (suc a) ns) + rank (drop (suc a) ns) (drop (suc a) js))) (sym (outer_index-set a (i - v) is))
              ∙ (ih ∙ sym (ap (λ t. if t then cell g is else concatenation_cell a gs js) (le-ltb i v other)))))))
        ]

    module _ (gs : List (Grid A)) (whole : All IsGrid gs) (each : All (λ g. g.lengths ≡ set ns a (get_or g.lengths a 0)) gs) where
      -- the length along the axis
      abbrev total : ℕ
      total = sum_by (λ g. get_or g.lengths a 0) gs

      length-outer : (ps : List ℕ) → InBox (outer_lengths a ns) ps → length (blocks_at a ps gs) ≡ total * size (drop (suc a) ns)
      length-outer ps b = length-blocks (block_at a ps) (λ g. get_or g.lengths a 0) (size (drop (suc a) ns)) gs (λ k d lt. length-here (get_or gs k d) ps (whole k d lt) (each k d lt) b)

      all-outer : All (λ ps. length (blocks_at a ps gs) ≡ total * size (drop (suc a) ns)) (row_order (outer_lengths a ns))
      all-outer k d lt = length-outer (get_or (row_order (outer_lengths a ns)) k d) ((row_order-is (outer_lengths a ns)).within k d lt)

      concatenation-many : length (all_blocks a (outer_lengths a ns) gs) ≡ size (set ns a total)
      concatenation-many =
          length-same_blocks (λ ps. blocks_at a ps gs) (total * size (drop (suc a) ns)) (row_order (outer_lengths a ns)) all-outer
          ∙ (ap (λ m. m * (total * size (drop (suc a) ns))) (length-row_order (outer_lengths a ns)) ∙ sym (size-set a total ns below))

      concatenation-array : (r : Grid A) → IsGrid r → r.lengths ≡ set ns a total → r.cells ≡ all_blocks a (outer_lengths a ns) gs → r ≡ tabulate (set ns a total) (concatenation_cell a gs)
      concatenation-array r wr e cells =
          tabulate-is r (set ns a total) (concatenation_cell a gs) wr e
          (λ is b.
          let c : InBox (set ns a total) is = subst (λ ms. InBox ms is) e b in
          let ls = length-set ns a total in
          let l : length is ≡ length ns = InBox-length (set ns a total) is c ∙ ls in
          let ps : List ℕ = outer_index a is in
          let outer : InBox (outer_lengths a ns) ps = subst (λ ms. InBox ms ps) (outer-set a total ns) (InBox-outer a (set ns a total) is c) in
          let index : get_or is a 0 < total = (let g = InBox-get (set ns a total) is a c (omega (arith, ls, below)) in omega (arith, g, get_or-set_same ns a total 0 below)) in
          let r_at : ℕ = get_or is a 0 * size (drop (suc a) ns) + rank (drop (suc a) ns) (drop (suc a) is) in
          let here = drop-here a ns below total in
          let inside : r_at < total * size (drop (suc a) ns) = (let t = rank-lt (drop a (set ns a total)) (drop a is) (InBox-drop a (set ns a total) is c) in omega (arith, t, rank-here a ns below total is l, ap size here)) in
          let first = rank-lt (outer_lengths a ns) ps outer in
          let lr = length-row_order (outer_lengths a ns) in
          cell-within r wr is b
          ∙ (ap (slice_get r.cells) (ap (λ ms. rank ms is) e ∙ rank-set a total ns is below l)
          ∙ (ap (λ xs. slice_get xs (rank (outer_lengths a ns) ps * (total * size (drop (suc a) ns)) + r_at)) cells
          ∙ (slice_get-same_blocks (λ qs. blocks_at a qs gs) (total * size (drop (suc a) ns)) (row_order (outer_lengths a ns)) (rank (outer_lengths a ns) ps) r_at [] all-outer (omega (arith, first, lr)) inside
          ∙ (ap (λ qs. slice_get (blocks_at a qs gs) r_at) (row_order-at (outer_lengths a ns) ps [] outer)
          ∙ concatenation-at gs whole each is total c index)))))

  -- ---- along a new axis

  module _ (ns : List ℕ) (most : a ≤ length ns) (gs : List (Grid A)) (whole : All IsGrid gs) (each : All (λ g. g.lengths ≡ ns) gs) where
    abbrev one : ℕ
    one = size (drop a ns)

    length-one : (ps : List ℕ) → InBox (outer_lengths a ns) ps → All (λ g. length (block_at a ps g) ≡ one) gs
    length-one ps b k d lt =
        let g : Grid A = get_or gs k d in
        let e : g.lengths ≡ ns = each k d lt in
        length-block g ps (whole k d lt) (subst (λ ms. InBox (outer_lengths a ms) ps) (sym e) b) ∙ ap (λ ms. size (drop a ms)) e

    all-same : All (λ ps. length (blocks_at a ps gs) ≡ length gs * one) (row_order (outer_lengths a ns))
    all-same k d lt =
        let ps : List ℕ = get_or (row_order (outer_lengths a ns)) k d in
        length-same_blocks (block_at a ps) one gs (length-one ps ((row_order-is (outer_lengths a ns)).within k d lt))

    stack_of-many : length (all_blocks a (outer_lengths a ns) gs) ≡ size (insert ns a (length gs))
    stack_of-many =
        length-same_blocks (λ ps. blocks_at a ps gs) (length gs * one) (row_order (outer_lengths a ns)) all-same
        ∙ (ap (λ m. m * (length gs * one)) (length-row_order (outer_lengths a ns)) ∙ sym (size-insert ns a (length gs) most))

    stack_of-array : (r : Grid A) → IsGrid r → r.lengths ≡ insert ns a (length gs) → r.cells ≡ all_blocks a (outer_lengths a ns) gs → r ≡ tabulate (insert ns a (length gs)) (stack_cell a gs)
    stack_of-array r wr e cells =
        tabulate-is r (insert ns a (length gs)) (stack_cell a gs) wr e
        (λ is b.
        let c : InBox (insert ns a (length gs)) is = subst (λ ms. InBox ms is) e b in
        let li = length-insert ns a (length gs) most in
        let l = InBox-length (insert ns a (length gs)) is c in
        let js : List ℕ = remove is a in
        let box : InBox ns js = subst (λ ms. InBox ms js) (remove-inserted ns a (length gs) most) (InBox-removed (insert ns a (length gs)) is a (omega (arith, li, most)) c) in
        let ps : List ℕ = outer_index a js in
        let outer : InBox (outer_lengths a ns) ps = InBox-outer a ns js box in
        let i : ℕ = get_or is a 0 in
        let index : i < length gs = (let g = InBox-get (insert ns a (length gs)) is a c (omega (arith, li, most)) in omega (arith, g, get_or-insert_at ns a (length gs) 0 most)) in
        let q : ℕ = rank (drop a ns) (drop a js) in
        let q-lt : q < one = rank-lt (drop a ns) (drop a js) (InBox-drop a ns js box) in
        let m : suc i * one ≤ length gs * one = mul-le (suc i) one (length gs) one index (omega arith) in
        let s : suc i * one ≡ i * one + one = omega arith in
        let first = rank-lt (outer_lengths a ns) ps outer in
        let lr = length-row_order (outer_lengths a ns) in
        let d : Grid A = grid [] [] in
        let g : Grid A = get_or gs i d in
        let eg : g.lengths ≡ ns = each i d index in
        cell-within r wr is b
        ∙ (ap (slice_get r.cells) (ap (λ ms. rank ms is) e ∙ rank-insert a (length gs) ns is most (omega (arith, l, li)))
        ∙ (ap (λ xs. slice_get xs (rank (outer_lengths a ns) ps * (length gs * one) + (i * one + q))) cells
        ∙ (slice_get-same_blocks (λ qs. blocks_at a qs gs) (length gs * one) (row_order (outer_lengths a ns)) (rank (outer_lengths a ns) ps) (i * one + q) [] all-same (omega (arith, first, lr)) (omega (arith, m, s, q-lt))
        ∙ (ap (λ qs. slice_get (blocks_at a qs gs) (i * one + q)) (row_order-at (outer_lengths a ns) ps [] outer)
        ∙ (slice_get-same_blocks (block_at a ps) one gs i q d (length-one ps outer) index q-lt
        ∙ (ap (λ ms. slice_get (block_at a ps g) (rank (drop a ms) (drop a js))) (sym eg)
        ∙ (block-cell g js (whole i d index) (subst (λ ms. InBox ms js) (sym eg) box)
        ∙ sym (ap (option_and_then (λ h. cell h js)) (slice_get-get_or gs i d index))))))))))

-- ---- from shapes that nothing is wrong with

sum-shapes : {A : Type 0} (a : ℕ) (gs : List (Grid A)) → sum_by (λ ms. get_or ms a 0) (shapes_of gs) ≡ sum_by (λ g. get_or g.lengths a 0) gs
sum-shapes a [] = refl
sum-shapes a (g ∷ gs) =
    sum_by-cons (λ ms. get_or ms a 0) g.lengths (shapes_of gs)
    ∙ (ap (λ n. get_or g.lengths a 0 + n) (sum-shapes a gs) ∙ sym (sum_by-cons (λ h. get_or h.lengths a 0) g gs))

-- arrays that may be joined along an axis, of which ns are the first one's lengths
pub record AreAlong {A : Type 0} (a : ℕ) (ns : List ℕ) (gs : List (Grid A)) : Type 0 where
  pub below : a < length ns
  pub each : All (λ g. g.lengths ≡ set ns a (get_or g.lengths a 0)) gs
  pub limit : nonzero_size (set ns a (sum_by (λ g. get_or g.lengths a 0) gs)) < 2 ^ 63

pub are-along : {A : Type 0} (a : ℕ) (g : Grid A) (gs : List (Grid A)) → concatenate_error a (shapes_of (g ∷ gs)) ≡ None → AreAlong a g.lengths (g ∷ gs)
are-along a g gs none =
    let ns : List ℕ = g.lengths in
    let ms : List ℕ = concatenation_lengths a (shapes_of (g ∷ gs)) in
    let (axis, rest) = if-none (not (nat_lt a (length ns))) OutOfBounds
    (if not (list_all (is_same_but_along a ns) (shapes_of gs)) then Some IncompatibleShape else if not (is_within_limit ms) then Some Overflow else None) none in
    let (shapes, last) = if-none (not (list_all (is_same_but_along a ns) (shapes_of gs))) IncompatibleShape (if not (is_within_limit ms) then Some Overflow else None) rest in
    let (size, end) = if-none (not (is_within_limit ms)) Overflow None last in
    let lengths : ms ≡ set ns a (sum_by (λ h. get_or h.lengths a 0) (g ∷ gs)) = ap (set ns a) (sum-shapes a (g ∷ gs)) in
    record {
      below = ltb-true a (length ns) (not-false (nat_lt a (length ns)) axis);
      each = All-cons (λ h. h.lengths ≡ set ns a (get_or h.lengths a 0)) g gs (sym (set-get_or ns a 0)) (each-but_along a ns gs (not-false (list_all (is_same_but_along a ns) (shapes_of gs)) shapes));
      limit = subst (λ ks. nonzero_size ks < 2 ^ 63) lengths (ltb-true (nonzero_size ms) (2 ^ 63) (not-false (is_within_limit ms) size));
    }

-- arrays that may be stacked
record AreAlike {A : Type 0} (a : ℕ) (ns : List ℕ) (gs : List (Grid A)) : Type 0 where
  most : a ≤ length ns
  each : All (λ g. g.lengths ≡ ns) gs
  limit : nonzero_size (insert ns a (length gs)) < 2 ^ 63

are-alike : {A : Type 0} (a : ℕ) (g : Grid A) (gs : List (Grid A)) → stack_error a (shapes_of (g ∷ gs)) ≡ None → AreAlike a g.lengths (g ∷ gs)
are-alike a g gs none =
    let ns : List ℕ = g.lengths in
    let ms : List ℕ = stack_lengths a (shapes_of (g ∷ gs)) in
    let (axis, rest) = if-none (nat_lt (length ns) a) OutOfBounds
    (if not (list_all (same_index ns) (shapes_of gs)) then Some IncompatibleShape else if nat_lt 32 (length ns + 1) then Some RangeLimited else if not (is_within_limit ms) then Some Overflow else None) none in
    let (shapes, more) = if-none (not (list_all (same_index ns) (shapes_of gs))) IncompatibleShape (if nat_lt 32 (length ns + 1) then Some RangeLimited else if not (is_within_limit ms) then Some Overflow else None) rest in
    let (axes, last) = if-none (nat_lt 32 (length ns + 1)) RangeLimited (if not (is_within_limit ms) then Some Overflow else None) more in
    let (size, end) = if-none (not (is_within_limit ms)) Overflow None last in
    let lengths : ms ≡ insert ns a (length (g ∷ gs)) = ap (insert ns a) (length-map (g ∷ gs) (λ h. h.lengths)) in
    record {
      most = ltb-false (length ns) a axis;
      each = All-cons (λ h. h.lengths ≡ ns) g gs refl (each-same ns gs (not-false (list_all (same_index ns) (shapes_of gs)) shapes));
      limit = subst (λ ks. nonzero_size ks < 2 ^ 63) lengths (ltb-true (nonzero_size ms) (2 ^ 63) (not-false (is_within_limit ms) size));
    }

module _ {A : Type 0} (a : ℕ) where
  -- ---- the blocks may be joined

  pub may-concatenate : (gs : List (Grid A)) (os ms : List ℕ) → JoinsAs a (concatenate_error a) (concatenation_lengths a) gs os ms → MayJoin a gs os ms
  may-concatenate [] os ms j = absurd (let n = j.none in cc)
  may-concatenate (g ∷ gs) os ms j =
      let ns : List ℕ = g.lengths in
      let k = are-along a g gs j.none in
      let lengths : ms ≡ set ns a (sum_by (λ h. get_or h.lengths a 0) (g ∷ gs)) = j.lengths ∙ ap (set ns a) (sum-shapes a (g ∷ gs)) in
      record {
        limit = subst (λ ks. nonzero_size ks < 2 ^ 63) (sym lengths) k.limit;
        outer_limit = j.outer_limit;
        many = ap (λ os. length (all_blocks a os (g ∷ gs))) j.outer ∙ (concatenation-many a ns k.below (g ∷ gs) j.whole k.each ∙ ap size (sym lengths));
        blocks = λ is b i d lt.
            let h : Grid A = get_or (g ∷ gs) i d in
            let e = k.each i d lt in
            let same : outer_lengths a h.lengths ≡ os = outer-here a ns k.below h e ∙ sym j.outer in
            let l = ap length e ∙ length-set ns a (get_or h.lengths a 0) in
            let below = k.below in
            HasBlockAt-outer a h is (omega (arith, l, below)) (subst (λ ks. InBox ks is) (sym same) b);
      }

  pub may-stack : (gs : List (Grid A)) (os ms : List ℕ) → JoinsAs a (stack_error a) (stack_lengths a) gs os ms → MayJoin a gs os ms
  may-stack [] os ms j = absurd (let n = j.none in cc)
  may-stack (g ∷ gs) os ms j =
      let ns : List ℕ = g.lengths in
      let k = are-alike a g gs j.none in
      let lengths : ms ≡ insert ns a (length (g ∷ gs)) = j.lengths ∙ ap (insert ns a) (length-map (g ∷ gs) (λ h. h.lengths)) in
      record {
        limit = subst (λ ks. nonzero_size ks < 2 ^ 63) (sym lengths) k.limit;
        outer_limit = j.outer_limit;
        many = ap (λ os. length (all_blocks a os (g ∷ gs))) j.outer ∙ (stack_of-many a ns k.most (g ∷ gs) j.whole k.each ∙ ap size (sym lengths));
        blocks = λ is b i d lt.
            let h : Grid A = get_or (g ∷ gs) i d in
            let e : h.lengths ≡ ns = k.each i d lt in
            let most = k.most in
            HasBlockAt-outer a h is (omega (arith, ap length e, most)) (subst (λ ks. InBox ks is) (j.outer ∙ ap (outer_lengths a) (sym e)) b);
      }

  -- ---- and are the array

  pub concatenation-is : (gs : List (Grid A)) (os ms : List ℕ) → JoinsAs a (concatenate_error a) (concatenation_lengths a) gs os ms → (r : Grid A) → IsGrid r → r.lengths ≡ ms → r.cells ≡ all_blocks a os gs → r ≡ concatenation a gs
  concatenation-is [] os ms j r whole e cells = absurd (let n = j.none in cc)
  concatenation-is (g ∷ gs) os ms j r whole e cells =
      let ns : List ℕ = g.lengths in
      let k = are-along a g gs j.none in
      let sums = ap (set ns a) (sum-shapes a (g ∷ gs)) in
      concatenation-array a ns k.below (g ∷ gs) j.whole k.each r whole (e ∙ (j.lengths ∙ sums)) (cells ∙ ap (λ os. all_blocks a os (g ∷ gs)) j.outer)
      ∙ ap (λ ks. tabulate ks (concatenation_cell a (g ∷ gs))) (sym sums)

  pub stack_of-is : (gs : List (Grid A)) (os ms : List ℕ) → JoinsAs a (stack_error a) (stack_lengths a) gs os ms → (r : Grid A) → IsGrid r → r.lengths ≡ ms → r.cells ≡ all_blocks a os gs → r ≡ stack_of a gs
  stack_of-is [] os ms j r whole e cells = absurd (let n = j.none in cc)
  stack_of-is (g ∷ gs) os ms j r whole e cells =
      let ns : List ℕ = g.lengths in
      let k = are-alike a g gs j.none in
      let counts = ap (insert ns a) (length-map (g ∷ gs) (λ h. h.lengths)) in
      stack_of-array a ns k.most (g ∷ gs) j.whole k.each r whole (e ∙ (j.lengths ∙ counts)) (cells ∙ ap (λ os. all_blocks a os (g ∷ gs)) j.outer)
      ∙ ap (λ ks. tabulate ks (stack_cell a (g ∷ gs))) (sym counts)
