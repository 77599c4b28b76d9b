-- Two filters in turn on any number of axes.
use Rattle.std.proofs.Common.{◌≡◌, ◌∙◌, ℕ, zero, suc, ◌+◌, ◌-◌, ◌*◌, ◌<◌, ◌≤◌, List, [], ◌∷◌, length, map, replicate, Option, Some, None, ap, refl, sym, arith, subst}
use Rattle.std.specs.Prelude.{All, filter_map}
use Rattle.std.specs.List.{range_with_len}
use Rattle.std.proofs.lemmas.List.{length-replicate}
use Rattle.std.proofs.lemmas.List.Elements.{All-head, All-tail}
use Rattle.ndarray.specs.Algebra.{CommutativeMonoid}
use Rattle.ndarray.specs.Convolution.{full_length, mirrored, product_of_both, single_steps, valid_convolution_by, valid_counts, valid_products}
use Rattle.ndarray.specs.FilterLaws.{FiltersOnAxesCompose, differences, full_convolution_of, full_lengths}
use Rattle.ndarray.specs.Grid.{Grid, IsGrid, cell}
use Rattle.ndarray.specs.Index.{InBox, row_order}
use Rattle.ndarray.specs.Subviews.{window_count, window_counts, window_index}
use Rattle.ndarray.specs.Sums.{total}
use Rattle.ndarray.proofs.algebra.AddedTotals.{total-multiplied}
use Rattle.ndarray.proofs.algebra.AxisSums.{box-cons}
use Rattle.ndarray.proofs.algebra.RangeTotals.{by-sums, over, over-same}
use Rattle.ndarray.proofs.algebra.Totals.{op_unit, total-same, total-swap, total-units, total_by-filter_map, value_of}
use Rattle.ndarray.proofs.boxes.Boxes.{InBox-length}
use Rattle.ndarray.proofs.boxes.Orders.{row_order-is}
use Rattle.ndarray.proofs.cells.Cells.{array_by-cell, array_by-same, array_by-whole, cell-outside}
use Rattle.ndarray.proofs.convolution.Full.{full_length-some}
use Rattle.ndarray.proofs.convolution.KernelSums.{mirrored-inside}
use Rattle.ndarray.proofs.convolution.LinearFilters.{filtered-sum}
use Rattle.ndarray.proofs.convolution.OneAxis.{window_count-valid}
use Rattle.ndarray.proofs.lists.Elements.{map-same}
use Rattle.ndarray.proofs.pieces.Windows.{length-window_counts, window-inside}

-- the sums of two index lists, axis by axis
abbrev sums : List ℕ → List ℕ → List ℕ
sums [] js = []
sums (i ∷ is) [] = []
sums (i ∷ is) (j ∷ js) = (i + j) ∷ sums is js

-- ---- lengths

length-full : (ks ls : List ℕ) → length ls ≡ length ks → length (full_lengths ks ls) ≡ length ks
length-full [] ls same = refl
length-full (k ∷ ks) [] same = absurd (omega (arith, same))
length-full (k ∷ ks) (l ∷ ls) same = let rest = length-full ks ls (omega (arith, same)) in omega (arith, rest)

-- as many windows of windows as there are windows of the full convolution's lengths
counts-twice : (ns ks ls : List ℕ) → length ks ≡ length ns → length ls ≡ length ns → All (λ k. 1 ≤ k) ks → All (λ l. 1 ≤ l) ls
    → window_counts (window_counts ns ks (replicate (length ns) 1)) ls (replicate (length ns) 1) ≡ window_counts ns (full_lengths ks ls) (replicate (length ns) 1)
counts-twice [] ks ls same also p q = refl
counts-twice (n ∷ ns) [] ls same also p q = absurd (omega (arith, same))
counts-twice (n ∷ ns) (k ∷ ks) [] same also p q = absurd (omega (arith, also))
counts-twice (n ∷ ns) (k ∷ ks) (l ∷ ls) same also p q =
    let first : 1 ≤ k = All-head (λ k. 1 ≤ k) k ks p in
    let second : 1 ≤ l = All-head (λ k. 1 ≤ k) l ls q in
    let here : window_count (window_count n k 1) l 1 ≡ window_count n (full_length k l) 1 =
    ap (λ m. window_count m l 1) (window_count-valid n k)
    ∙ (window_count-valid (n + 1 - k) l
    ∙ ((let e : n + 1 - k + 1 - l ≡ n + 1 - (k + l - 1) = omega (arith, first, second) in e)
    ∙ (ap (λ m. n + 1 - m) (sym (full_length-some k l first second)) ∙ sym (window_count-valid n (full_length k l))))) in
    ap (λ m. m ∷ window_counts (window_counts ns ks (replicate (length ns) 1)) ls (replicate (length ns) 1)) here
    ∙ ap (λ ms. window_count n (full_length k l) 1 ∷ ms)
    (counts-twice ns ks ls (omega (arith, same)) (omega (arith, also)) (All-tail (λ k. 1 ≤ k) k ks p) (All-tail (λ k. 1 ≤ k) l ls q))

-- where a cell of a window of windows comes from
meeting-twice : (ks ls ps is js : List ℕ) (m : ℕ) → length ks ≡ m → length ls ≡ m → length ps ≡ m → All (λ k. 1 ≤ k) ks → All (λ l. 1 ≤ l) ls → InBox ks is → InBox ls js
    → window_index (replicate m 1) (window_index (replicate m 1) ps (mirrored ls js)) (mirrored ks is) ≡ window_index (replicate m 1) ps (mirrored (full_lengths ks ls) (sums is js))
meeting-twice ks ls ps is js zero a b c p q x y = refl
meeting-twice [] ls ps is js (suc m) a b c p q x y = absurd (omega (arith, a))
meeting-twice (k ∷ ks) [] ps is js (suc m) a b c p q x y = absurd (omega (arith, b))
meeting-twice (k ∷ ks) (l ∷ ls) [] is js (suc m) a b c p q x y = absurd (omega (arith, c))
meeting-twice (k ∷ ks) (l ∷ ls) (t ∷ ps) [] js (suc m) a b c p q x y = absurd x
meeting-twice (k ∷ ks) (l ∷ ls) (t ∷ ps) (i ∷ is) [] (suc m) a b c p q x y = absurd y
meeting-twice (k ∷ ks) (l ∷ ls) (t ∷ ps) (i ∷ is) (j ∷ js) (suc m) a b c p q x y =
    let first : 1 ≤ k = All-head (λ k. 1 ≤ k) k ks p in
    let second : 1 ≤ l = All-head (λ k. 1 ≤ k) l ls q in
    let low : i < k = x.0 in
    let also : j < l = y.0 in
    let all = full_length-some k l first second in
    let here : (t * 1 + (l - 1 - j)) * 1 + (k - 1 - i) ≡ t * 1 + (full_length k l - 1 - (i + j)) = omega (arith, all, low, also) in
    ap (λ u. u ∷ window_index (replicate m 1) (window_index (replicate m 1) ps (mirrored ls js)) (mirrored ks is)) here
    ∙ ap (λ us. (t * 1 + (full_length k l - 1 - (i + j))) ∷ us)
    (meeting-twice ks ls ps is js m (omega (arith, a)) (omega (arith, b)) (omega (arith, c)) (All-tail (λ k. 1 ≤ k) k ks p) (All-tail (λ k. 1 ≤ k) l ls q) x.1 y.1)

module _ {C : Type 0} (plus times : CommutativeMonoid C)
    (distributes : (x y z : C) → times.op x (plus.op y z) ≡ plus.op (times.op x y) (times.op x z)) (absorbs : (x : C) → times.op plus.unit x ≡ plus.unit) where
  -- the total over a box
  abbrev box : List ℕ → (List ℕ → C) → C
  box ns f = total plus (map f (row_order ns))

  box-same : (ns : List ℕ) (f h : List ℕ → C) → ((is : List ℕ) → f is ≡ h is) → box ns f ≡ box ns h
  box-same ns f h each = total-same plus f h (row_order ns) each

  box-neutral : (ns : List ℕ) (f : List ℕ → C) → ((is : List ℕ) → f is ≡ plus.unit) → box ns f ≡ plus.unit
  box-neutral ns f each = box-same ns f (λ _. plus.unit) each ∙ total-units plus (row_order ns)

  -- a factor of each value
  multiplied : {X : Type 0} (f : X → C) (factor : C) (xs : List X) → times.op (total plus (map f xs)) factor ≡ total plus (map (λ x. times.op (f x) factor) xs)
  multiplied f factor xs = sym (total-multiplied plus (λ x. x) times distributes absorbs factor f xs)

  -- neutral outside a box
  abbrev IsNeutralOutside : List ℕ → (List ℕ → C) → Type 0
  IsNeutralOutside ns f = (is : List ℕ) → (InBox ns is → ⊥) → f is ≡ plus.unit

  -- Of values that are neutral outside their boxes: the products over both boxes, each with a value at the sum of the index lists, are those over the sums.
  box-by_sums : (ks ls : List ℕ) → length ls ≡ length ks → All (λ k. 1 ≤ k) ks → All (λ l. 1 ≤ l) ls → (f h v : List ℕ → C) → IsNeutralOutside ks f → IsNeutralOutside ls h
      → box ks (λ is. box ls (λ js. times.op (times.op (f is) (h js)) (v (sums is js)))) ≡ box (full_lengths ks ls) (λ s. times.op (box (map suc s) (λ is. times.op (f is) (h (differences s is)))) (v s))
  unfolding row_order
  box-by_sums [] [] same p q f h v out also =
      let x : C = times.op (f []) (h []) in
      op_unit plus (plus.op (times.op x (v [])) plus.unit)
      ∙ ap (λ t. plus.op (times.op t (v [])) plus.unit) (sym (op_unit plus x))
  box-by_sums [] (l ∷ ls) same p q f h v out also = absurd (omega (arith, same))
  box-by_sums (k ∷ ks) [] same p q f h v out also = absurd (omega (arith, same))
  box-by_sums (k ∷ ks) (l ∷ ls) same p q f h v out also =
      let first : 1 ≤ k = All-head (λ k. 1 ≤ k) k ks p in
      let second : 1 ≤ l = All-head (λ k. 1 ≤ k) l ls q in
      let rest = λ (i : ℕ) (j : ℕ). box-by_sums ks ls (omega (arith, same)) (All-tail (λ k. 1 ≤ k) k ks p) (All-tail (λ k. 1 ≤ k) l ls q) (λ is. f (i ∷ is)) (λ js. h (j ∷ js)) (λ s. v ((i + j) ∷ s))
      (λ is outside. out (i ∷ is) (λ b. outside b.1)) (λ js outside. also (j ∷ js) (λ b. outside b.1)) in
      left-side rest
      ∙ (by-sums plus (λ i j. term i j (i + j)) k l first second high wide
      ∙ (over-same plus (λ s. over plus (λ i. term i (s - i) (i + (s - i))) 0 (suc s)) (λ s. over plus (λ i. term i (s - i) s) 0 (suc s)) (k + l - 1)
      (λ s below. over-same plus (λ i. term i (s - i) (i + (s - i))) (λ i. term i (s - i) s) (suc s) (λ i lt. let e : i + (s - i) ≡ s = omega (arith, lt) in ap (term i (s - i)) e))
      ∙ (ap (over plus (λ s. over plus (λ i. term i (s - i) s) 0 (suc s)) 0) (sym (full_length-some k l first second)) ∙ sym right-side)))
    where
      full : List ℕ
      full = full_lengths ks ls

      -- with the first indices i, j and s
      inner : ℕ → ℕ → List ℕ → C
      inner i j s = box (map suc s) (λ is. times.op (f (i ∷ is)) (h (j ∷ differences s is)))

      term : ℕ → ℕ → ℕ → C
      term i j s = box full (λ ss. times.op (inner i j ss) (v (s ∷ ss)))

      high : (i j : ℕ) → k ≤ i → term i j (i + j) ≡ plus.unit
      high i j ge = box-neutral full (λ ss. times.op (inner i j ss) (v ((i + j) ∷ ss))) (λ ss.
          ap (λ t. times.op t (v ((i + j) ∷ ss))) (box-neutral (map suc ss) (λ is. times.op (f (i ∷ is)) (h (j ∷ differences ss is))) (λ is.
          ap (λ t. times.op t (h (j ∷ differences ss is))) (out (i ∷ is) (λ b. let lt = b.0 in omega (arith, lt, ge))) ∙ absorbs (h (j ∷ differences ss is))))
          ∙ absorbs (v ((i + j) ∷ ss)))

      wide : (i j : ℕ) → l ≤ j → term i j (i + j) ≡ plus.unit
      wide i j ge = box-neutral full (λ ss. times.op (inner i j ss) (v ((i + j) ∷ ss))) (λ ss.
          ap (λ t. times.op t (v ((i + j) ∷ ss))) (box-neutral (map suc ss) (λ is. times.op (f (i ∷ is)) (h (j ∷ differences ss is))) (λ is.
          ap (times.op (f (i ∷ is))) (also (j ∷ differences ss is) (λ b. let lt = b.0 in omega (arith, lt, ge))) ∙ (times.commutes (f (i ∷ is)) plus.unit ∙ absorbs (f (i ∷ is)))))
          ∙ absorbs (v ((i + j) ∷ ss)))

      left-side : ((i j : ℕ) → box ks (λ is. box ls (λ js. times.op (times.op (f (i ∷ is)) (h (j ∷ js))) (v ((i + j) ∷ sums is js)))) ≡ term i j (i + j))
          → box (k ∷ ks) (λ is. box (l ∷ ls) (λ js. times.op (times.op (f is) (h js)) (v (sums is js)))) ≡ over plus (λ i. over plus (λ j. term i j (i + j)) 0 l) 0 k
      left-side rest =
          box-cons plus (λ is. box (l ∷ ls) (λ js. times.op (times.op (f is) (h js)) (v (sums is js)))) k ks
          ∙ total-same plus _ (λ i. over plus (λ j. term i j (i + j)) 0 l) (range_with_len 0 k) (λ i.
          box-same ks _ (λ is. over plus (λ j. box ls (λ js. times.op (times.op (f (i ∷ is)) (h (j ∷ js))) (v ((i + j) ∷ sums is js)))) 0 l)
          (λ is. box-cons plus (λ js. times.op (times.op (f (i ∷ is)) (h js)) (v (sums (i ∷ is) js))) l ls)
          ∙ (total-swap plus (λ is j. box ls (λ js. times.op (times.op (f (i ∷ is)) (h (j ∷ js))) (v ((i + j) ∷ sums is js)))) (row_order ks) (range_with_len 0 l)
          ∙ total-same plus _ (λ j. term i j (i + j)) (range_with_len 0 l) (λ j. rest i j)))

      right-side : box (full_length k l ∷ full) (λ s. times.op (box (map suc s) (λ is. times.op (f is) (h (differences s is)))) (v s)) ≡ over plus (λ s. over plus (λ i. term i (s - i) s) 0 (suc s)) 0 (full_length k l)
      right-side =
          box-cons plus (λ s. times.op (box (map suc s) (λ is. times.op (f is) (h (differences s is)))) (v s)) (full_length k l) full
          ∙ total-same plus _ (λ s. over plus (λ i. term i (s - i) s) 0 (suc s)) (range_with_len 0 (full_length k l)) (λ s.
          box-same full _ (λ ss. over plus (λ i. times.op (inner i (s - i) ss) (v (s ∷ ss))) 0 (suc s)) (λ ss.
          ap (λ t. times.op t (v (s ∷ ss))) (box-cons plus (λ is. times.op (f is) (h (differences (s ∷ ss) is))) (suc s) (map suc ss))
          ∙ multiplied (λ i. inner i (s - i) ss) (v (s ∷ ss)) (range_with_len 0 (suc s)))
          ∙ total-swap plus (λ ss i. times.op (inner i (s - i) ss) (v (s ∷ ss))) (row_order full) (range_with_len 0 (suc s)))

  -- ---- arrays of values

  abbrev pub at : Grid C → List ℕ → C
  at g is = value_of plus (λ x. x) (cell g is)

  neutral-outside : (g : Grid C) → IsNeutralOutside g.lengths (at g)
  neutral-outside g is out = ap (value_of plus (λ x. x)) (cell-outside g is out)

  -- the product of two values, of which one may be missing
  both : (o p : Option C) → value_of plus (λ x. x) (product_of_both times (λ x. x) o p) ≡ times.op (value_of plus (λ x. x) o) (value_of plus (λ x. x) p)
  both None p = sym (absorbs (value_of plus (λ x. x) p))
  both (Some x) None = sym (times.commutes x plus.unit ∙ absorbs x)
  both (Some x) (Some y) = refl

  -- a value of the full convolution
  pub full-at : (k l : Grid C) (s : List ℕ) → InBox (full_lengths k.lengths l.lengths) s → at (full_convolution_of plus times k l) s ≡ box (map suc s) (λ is. times.op (at k is) (at l (differences s is)))
  full-at k l s b =
      ap (value_of plus (λ x. x)) (array_by-cell (full_lengths k.lengths l.lengths) (λ s. total plus (filter_map (λ is. product_of_both times (λ x. x) (cell k is) (cell l (differences s is))) (row_order (map suc s)))) s b)
      ∙ (total_by-filter_map plus (λ x. x) (λ is. product_of_both times (λ x. x) (cell k is) (cell l (differences s is))) (row_order (map suc s))
      ∙ box-same (map suc s) _ (λ is. times.op (at k is) (at l (differences s is))) (λ is. both (cell k is) (cell l (differences s is))))

  module _ (a k l : Grid C) (whole_a : IsGrid a) (whole_k : IsGrid k) (whole_l : IsGrid l) (axes_k : length k.lengths ≡ length a.lengths) (axes_l : length l.lengths ≡ length a.lengths)
      (some_k : All (λ n. 1 ≤ n) k.lengths) (some_l : All (λ n. 1 ≤ n) l.lengths) where
    abbrev ks : List ℕ
    ks = k.lengths

    abbrev ls : List ℕ
    ls = l.lengths

    abbrev middle : Grid C
    middle = valid_convolution_by plus times (λ x. x) a k

    abbrev whole_kernel : Grid C
    whole_kernel = full_convolution_of plus times k l

    abbrev ones : List ℕ
    ones = replicate (length a.lengths) 1

    axes-middle : length middle.lengths ≡ length a.lengths
    axes-middle = length-window_counts a.lengths ks ones axes_k (length-replicate (length a.lengths) 1)

    axes-full : length whole_kernel.lengths ≡ length a.lengths
    axes-full = length-full ks ls (axes_l ∙ sym axes_k) ∙ axes_k

    counts : valid_counts middle.lengths ls ≡ valid_counts a.lengths whole_kernel.lengths
    counts = ap (λ n. window_counts middle.lengths ls (replicate n 1)) axes-middle ∙ counts-twice a.lengths ks ls axes_k axes_l some_k some_l

    -- the array's value that meets an index list of the full convolution
    abbrev seen : List ℕ → List ℕ → C
    seen ps s = at a (window_index ones ps (mirrored (full_lengths ks ls) s))

    module _ (ps : List ℕ) (b : InBox (valid_counts middle.lengths ls) ps) where
      axes-place : length ps ≡ length a.lengths
      axes-place =
          let long = InBox-length (valid_counts middle.lengths ls) ps b in
          let counted = length-window_counts middle.lengths ls (single_steps middle.lengths) (axes_l ∙ sym axes-middle) (length-replicate (length middle.lengths) 1) in
          long ∙ (counted ∙ axes-middle)

      -- the place of the middle array that an index list of the second kernel meets
      abbrev place : List ℕ → List ℕ
      place js = window_index (single_steps middle.lengths) ps (mirrored ls js)

      place-is : (js : List ℕ) → place js ≡ window_index ones ps (mirrored ls js)
      place-is js = ap (λ n. window_index (replicate n 1) ps (mirrored ls js)) axes-middle

      middle-at : (js : List ℕ) → InBox ls js → at middle (place js) ≡ box ks (λ is. times.op (at k is) (seen ps (sums is js)))
      middle-at js inside =
          let there : InBox middle.lengths (place js) =
          window-inside middle.lengths ls (single_steps middle.lengths) ps (mirrored ls js) (axes_l ∙ sym axes-middle) (length-replicate (length middle.lengths) 1) b (mirrored-inside ls js inside) in
          ap (value_of plus (λ x. x)) (array_by-cell (valid_counts a.lengths ks) (λ ps. total plus (valid_products times (λ x. x) a k ps)) (place js) there)
          ∙ (filtered-sum plus times (λ x. x) a k whole_a whole_k axes_k (place js) there
          ∙ ap (total plus) (map-same (λ is. times.op (at k is) (at a (window_index ones (place js) (mirrored ks is)))) (λ is. times.op (at k is) (seen ps (sums is js))) (InBox ks) (row_order ks)
          (λ is c. ap (λ q. times.op (at k is) (at a q))
          (ap (λ q. window_index ones q (mirrored ks is)) (place-is js)
          ∙ meeting-twice ks ls ps is js (length a.lengths) axes_k axes_l axes-place some_k some_l c inside))
          (row_order-is ks).within))

      moved : (x y z : C) → times.op x (times.op y z) ≡ times.op (times.op y x) z
      moved x y z = sym (times.associates x y z) ∙ ap (λ t. times.op t z) (times.commutes x y)

      pub filtered-twice : total plus (valid_products times (λ x. x) middle l ps) ≡ total plus (valid_products times (λ x. x) a whole_kernel ps)
      filtered-twice =
          filtered-sum plus times (λ x. x) middle l (array_by-whole (valid_counts a.lengths ks) (λ ps. total plus (valid_products times (λ x. x) a k ps))) whole_l (axes_l ∙ sym axes-middle) ps b
          ∙ (ap (total plus) (map-same (λ js. times.op (at l js) (at middle (place js))) (λ js. box ks (λ is. times.op (times.op (at k is) (at l js)) (seen ps (sums is js)))) (InBox ls) (row_order ls)
          (λ js inside.
          ap (times.op (at l js)) (middle-at js inside)
          ∙ (times.commutes (at l js) (box ks (λ is. times.op (at k is) (seen ps (sums is js))))
          ∙ (multiplied (λ is. times.op (at k is) (seen ps (sums is js))) (at l js) (row_order ks)
          ∙ box-same ks _ (λ is. times.op (times.op (at k is) (at l js)) (seen ps (sums is js)))
          (λ is. times.commutes (times.op (at k is) (seen ps (sums is js))) (at l js) ∙ moved (at l js) (at k is) (seen ps (sums is js))))))
          (row_order-is ls).within)
          ∙ (total-swap plus (λ js is. times.op (times.op (at k is) (at l js)) (seen ps (sums is js))) (row_order ls) (row_order ks)
          ∙ (box-by_sums ks ls (axes_l ∙ sym axes_k) some_k some_l (at k) (at l) (seen ps) (neutral-outside k) (neutral-outside l)
          ∙ (ap (total plus) (map-same (λ s. times.op (box (map suc s) (λ is. times.op (at k is) (at l (differences s is)))) (seen ps s)) (λ s. times.op (at whole_kernel s) (seen ps s)) (InBox (full_lengths ks ls)) (row_order (full_lengths ks ls))
          (λ s c. ap (λ t. times.op t (seen ps s)) (sym (full-at k l s c))) (row_order-is (full_lengths ks ls)).within)
          ∙ sym (filtered-sum plus times (λ x. x) a whole_kernel whole_a
          (array_by-whole (full_lengths ks ls) (λ s. total plus (filter_map (λ is. product_of_both times (λ x. x) (cell k is) (cell l (differences s is))) (row_order (map suc s)))))
          axes-full ps (subst (λ ns. InBox ns ps) counts b))))))

    pub filters-twice : valid_convolution_by plus times (λ x. x) middle l ≡ valid_convolution_by plus times (λ x. x) a whole_kernel
    filters-twice = array_by-same (valid_counts middle.lengths ls) (valid_counts a.lengths whole_kernel.lengths) (λ ps. total plus (valid_products times (λ x. x) middle l ps)) (λ ps. total plus (valid_products times (λ x. x) a whole_kernel ps)) counts filtered-twice

  pub filters-on_axes_compose : FiltersOnAxesCompose plus times
  filters-on_axes_compose a k l whole_a whole_k whole_l first second = filters-twice a k l whole_a whole_k whole_l first.as_many second.as_many first.positive second.positive
