-- Convolutions of arrays of one axis are those of lists.
use Rattle.std.proofs.Common.{◌≡◌, ℕ, zero, suc, ◌+◌, ◌-◌, ◌*◌, ◌/◌, ◌≤◌, true, false, List, [], ◌∷◌, ◌++◌, map, length, reverse, replicate, take, drop, Some, refl, sym, ap, ◌∙◌, arith, subst, inl, inr, length-append, length-drop}
use Rattle.std.specs.Prelude.{flat_map, filter_map, slice_get, slice_index}
use Rattle.std.specs.List.{range_with_len}
use Rattle.std.proofs.lemmas.Bool.{cases_lt}
use Rattle.std.proofs.lemmas.Bool.Decides.{nat_tests}
use Rattle.std.proofs.lemmas.List.{length-replicate, length-take-le}
use Rattle.std.proofs.lemmas.Simd.{map-map}
use Rattle.ndarray.specs.Algebra.{CommutativeMonoid}
use Rattle.ndarray.specs.Convolution.{filter_products, filtered, filtered_by, full_convolution, full_convolution_by, full_length, padded, valid_convolution_by, valid_counts, valid_length, valid_products}
use Rattle.ndarray.specs.ConvolutionLaws.{ArrayFiltersCompose}
use Rattle.ndarray.specs.Grid.{Grid, array_by, grid, beside, cell, cells_by, one_axis, same_index}
use Rattle.ndarray.specs.Index.{row_order}
use Rattle.ndarray.specs.Matrices.{values_below}
use Rattle.ndarray.specs.Products.{products_of}
use Rattle.ndarray.specs.Subviews.{window, window_count, window_index}
use Rattle.ndarray.specs.Sums.{total}
use Rattle.ndarray.proofs.convolution.Filters.{filters_compose, slice_get-later}
use Rattle.ndarray.proofs.convolution.Full.{full_length-some}
use Rattle.ndarray.proofs.convolution.Mirrors.{HasCellsInRows, map-range, valid_products-reversed}
use Rattle.ndarray.proofs.convolution.ProductLists.{filter_map-map, filter_map-range}
use Rattle.ndarray.proofs.lists.Ranges.{range-later}
use Rattle.ndarray.proofs.convolution.ValueSums.{below-same, length-below}
use Rattle.ndarray.proofs.convolution.Windows.{filter_map-none, windows_agree}
use Rattle.ndarray.proofs.sums.RowSums.{map-range-below}

singles : (ks : List ℕ) → flat_map (λ k. map (λ is. k ∷ is) ([] ∷ [])) ks ≡ map (λ k. k ∷ []) ks
singles [] = refl
singles (k ∷ ks) = ap (λ xs. (k ∷ []) ∷ xs) (singles ks)

pub row_order-one : (n : ℕ) → row_order (n ∷ []) ≡ map (λ k. k ∷ []) (range_with_len 0 n)
unfolding row_order
row_order-one n = singles (range_with_len 0 n)

-- values along one axis
pub array_by-one : {C : Type 0} (f : ℕ → C) (n : ℕ) → array_by (n ∷ []) (λ is. f (slice_index is 0)) ≡ one_axis (values_below n f)
array_by-one f n =
    ap (grid (n ∷ [])) (ap (map (λ is. f (slice_index is 0))) (row_order-one n) ∙ (map-map (λ is. f (slice_index is 0)) (λ k. k ∷ []) (range_with_len 0 n) ∙ map-range-below f n))
    ∙ ap (λ k. grid (k ∷ []) (values_below n f)) (sym (length-below n f))

same_place : (a i : ℕ) → i ≡ 0 → same_index (a ∷ []) ((a + i) ∷ []) ≡ true
same_place a i e = grind (arith, nat_tests)

other_place : (a i : ℕ) → same_index (a ∷ []) ((a + suc i) ∷ []) ≡ false
other_place a i = grind (arith, nat_tests)

module _ {A : Type 0} where
  beside-one : (xs : List A) (a i : ℕ) → beside (map (λ k. k ∷ []) (range_with_len a (length xs))) xs ((a + i) ∷ []) ≡ slice_get xs i
  beside-one [] a i = refl
  beside-one (x ∷ xs) a zero = rw (same_place a 0 refl) refl
  beside-one (x ∷ xs) a (suc i) =
      rw (other_place a i) (ap (λ k. beside (map (λ j. j ∷ []) (range_with_len (a + 1) (length xs))) xs (k ∷ [])) (omega arith) ∙ beside-one xs (a + 1) i)

  cell-one : (xs : List A) (i : ℕ) → cell (one_axis xs) (i ∷ []) ≡ slice_get xs i
  unfolding cell
  cell-one xs i =
      let e : i ≡ 0 + i = omega arith in
      ap (λ l. beside l xs (i ∷ [])) (row_order-one (length xs))
      ∙ (ap (λ k. beside (map (λ j. j ∷ []) (range_with_len 0 (length xs))) xs (k ∷ [])) e ∙ beside-one xs 0 i)

  places : (xs : List A) → map (slice_get xs) (range_with_len 0 (length xs)) ≡ map Some xs
  places [] = refl
  places (x ∷ xs) = ap (λ l. Some x ∷ map (slice_get (x ∷ xs)) l) (range-later 0 (length xs)) ∙ ap (λ l. Some x ∷ l) (map-map (slice_get (x ∷ xs)) suc (range_with_len 0 (length xs)) ∙ places xs)

  first-places : (xs : List A) (m : ℕ) → filter_map (slice_get xs) (range_with_len 0 m) ≡ take m xs
  first-places xs zero = refl
  first-places [] (suc m) = filter_map-none (slice_get []) (range_with_len 0 (suc m)) (λ i. refl)
  first-places (x ∷ xs) (suc m) = ap (λ l. x ∷ filter_map (slice_get (x ∷ xs)) l) (range-later 0 m) ∙ ap (λ l. x ∷ l) (filter_map-map suc (slice_get (x ∷ xs)) (range_with_len 0 m) ∙ first-places xs m)

  one_axis-in_rows : (xs : List A) → HasCellsInRows (one_axis xs)
  one_axis-in_rows xs =
      ap (map (cell (one_axis xs))) (row_order-one (length xs))
      ∙ (map-map (cell (one_axis xs)) (λ k. k ∷ []) (range_with_len 0 (length xs))
      ∙ (map-range (λ k. cell (one_axis xs) (k ∷ [])) (slice_get xs) 0 (length xs) (λ i l m. cell-one xs i)
      ∙ places xs))

  window-one : (xs : List A) (m p : ℕ) → (window (one_axis xs) (m ∷ []) (1 ∷ []) (p ∷ [])).cells ≡ take m (drop p xs)
  unfolding cells_by
  window-one xs m p =
      let f = λ (js : List ℕ). cell (one_axis xs) (window_index (1 ∷ []) (p ∷ []) js) in
      ap (filter_map f) (row_order-one m)
      ∙ (filter_map-map (λ k. k ∷ []) f (range_with_len 0 m)
      ∙ (filter_map-range (λ j. f (j ∷ [])) (slice_get (drop p xs)) 0 m (λ j l h. ap (λ k. cell (one_axis xs) (k ∷ [])) (let e : p * 1 + j ≡ p + j = omega arith in e) ∙ (cell-one xs (p + j) ∙ sym (slice_get-later xs p j)))
      ∙ first-places (drop p xs) m))

pub window_count-valid : (n m : ℕ) → window_count n m 1 ≡ valid_length n m
window_count-valid n m =
    elim (cases_lt n m) [
      | inl below ↦ (let e : window_count n m 1 ≡ 0 = grind (arith, nat_tests) in omega arith)
      | inr le ↦ (let e : window_count n m 1 ≡ (n - m) / 1 + 1 = grind (arith, nat_tests) in omega arith)
    ]

-- how many positions there are, of one axis and of two
pub valid_counts-one : (ns : List ℕ) (m : ℕ) → length ns ≡ 1 → valid_counts ns (m ∷ []) ≡ valid_length (slice_index ns 0) m ∷ []
valid_counts-one [] m one = absurd (omega (arith, one))
valid_counts-one (n ∷ []) m one = ap (λ k. k ∷ []) (window_count-valid n m)
valid_counts-one (n ∷ p ∷ ns) m one = absurd (omega (arith, one))

pub valid_counts-two : (ns : List ℕ) (m k : ℕ) → length ns ≡ 2 → valid_counts ns (m ∷ k ∷ []) ≡ valid_length (slice_index ns 0) m ∷ valid_length (slice_index ns 1) k ∷ []
valid_counts-two [] m k two = absurd (omega (arith, two))
valid_counts-two (n ∷ []) m k two = absurd (omega (arith, two))
valid_counts-two (n ∷ p ∷ []) m k two = ap (λ c. c ∷ window_count p k 1 ∷ []) (window_count-valid n m) ∙ ap (λ c. valid_length n m ∷ c ∷ []) (window_count-valid p k)
valid_counts-two (n ∷ p ∷ q ∷ ns) m k two = absurd (omega (arith, two))

module _ {A C : Type 0} (plus times : CommutativeMonoid C) (value : A → C) where
  -- the products at a position
  pub valid_products-one : (xs ys : List A) (p : ℕ) → p + length ys ≤ length xs → valid_products times value (one_axis xs) (one_axis ys) (p ∷ []) ≡ filter_products times value xs ys p
  valid_products-one xs ys p h =
      let m : ℕ = length ys in
      let w : Grid A = window (one_axis xs) (m ∷ []) (1 ∷ []) (p ∷ []) in
      let d = length-drop p xs in
      let t = length-take-le m (drop p xs) (omega arith) in
      let same : w ≡ one_axis (take m (drop p xs)) = ap (grid (m ∷ [])) (window-one xs m p) ∙ ap (λ k. grid (k ∷ []) (take m (drop p xs))) (sym t) in
      valid_products-reversed times value (one_axis xs) (one_axis ys) (p ∷ []) (subst HasCellsInRows (sym same) (one_axis-in_rows (take m (drop p xs)))) (one_axis-in_rows ys)
      ∙ ap (λ l. products_of times value l (reverse ys)) (window-one xs m p)

  -- the valid convolution along one axis
  pub filtered-valid : (xs ys : List A) → valid_convolution_by plus times value (one_axis xs) (one_axis ys) ≡ one_axis (filtered_by plus times value xs ys)
  filtered-valid xs ys =
      let c : ℕ = window_count (length xs) (length ys) 1 in
      let n : ℕ = valid_length (length xs) (length ys) in
      let same : c ≡ n = window_count-valid (length xs) (length ys) in
      let at = λ (ps : List ℕ). total plus (valid_products times value (one_axis xs) (one_axis ys) ps) in
      let sum = λ (p : ℕ). total plus (filter_products times value xs ys p) in
      let cells : map at (row_order (c ∷ [])) ≡ values_below n sum =
      ap (map at) (row_order-one c)
      ∙ (map-map at (λ k. k ∷ []) (range_with_len 0 c)
      ∙ (map-range-below (λ k. at (k ∷ [])) c
      ∙ below-same c n (λ k. at (k ∷ [])) sum same (λ p l. ap (total plus) (valid_products-one xs ys p (omega arith))))) in
      ap (grid (c ∷ [])) cells ∙ ap (λ k. grid (k ∷ []) (values_below n sum)) (same ∙ sym (length-below n sum))

  module _ (absorbs : (x : C) → times.op plus.unit x ≡ plus.unit) (z : A) (is_zero : value z ≡ plus.unit) where
    -- the full convolution is the valid one of the first list between zeros
    pub full-filtered : (xs ys : List A) → 1 ≤ length xs → 1 ≤ length ys → filtered_by plus times value (padded z (length ys - 1) xs) ys ≡ full_convolution_by plus times value xs ys
    full-filtered xs ys one_x one_y =
        let k : ℕ = length ys - 1 in
        let a = length-append (replicate k z) (xs ++ replicate k z) in
        let b = length-append xs (replicate k z) in
        let r = length-replicate k z in
        let f = full_length-some (length xs) (length ys) one_x one_y in
        below-same (valid_length (length (padded z k xs)) (length ys)) (full_length (length xs) (length ys)) _ _ (omega arith) (λ s l. refl)
        ∙ windows_agree plus times value absorbs z is_zero xs ys

    pub full-valid : (xs ys : List A) → 1 ≤ length xs → 1 ≤ length ys → valid_convolution_by plus times value (one_axis (padded z (length ys - 1) xs)) (one_axis ys) ≡ one_axis (full_convolution_by plus times value xs ys)
    full-valid xs ys one_x one_y = filtered-valid (padded z (length ys - 1) xs) ys ∙ ap one_axis (full-filtered xs ys one_x one_y)

pub array_filters_compose : {C : Type 0} (plus times : CommutativeMonoid C) → ((x : C) → times.op plus.unit x ≡ plus.unit) → ((x y z : C) → times.op x (plus.op y z) ≡ plus.op (times.op x y) (times.op x z)) → ArrayFiltersCompose plus times
array_filters_compose plus times absorbs distributes xs ys zs one_y one_z =
    let valid = λ (g : Grid _) (kernel : Grid _). valid_convolution_by plus times (λ x. x) g kernel in
    ap (λ g. valid g (one_axis zs)) (filtered-valid plus times (λ x. x) xs ys)
    ∙ (filtered-valid plus times (λ x. x) (filtered plus times xs ys) zs
    ∙ (ap one_axis (filters_compose plus times absorbs distributes xs ys zs one_y one_z)
    ∙ sym (filtered-valid plus times (λ x. x) xs (full_convolution plus times ys zs))))
