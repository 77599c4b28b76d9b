-- The axes in another order.
use Rattle.std.proofs.Common.{◌≡◌, ◌∙◌, ◌+◌, ◌*◌, ◌%◌, ◌<◌, ◌^◌, ℕ, List, [], ◌∷◌, Option, ap, arith, get_or, length, map, refl, subst, suc, sym, zero}
use Rattle.std.specs.Prelude.{IsPermutation, nat_eq}
use Rattle.std.specs.List.{position_or_len, range_with_len, sum_by}
use Rattle.std.proofs.lemmas.Grind.{same_number_lists}
use Rattle.std.proofs.lemmas.List.{get_or-map, get_or_default, length-map}
use Rattle.std.proofs.lemmas.List.FromFn.{get_or-map-range_with_len, length-map-range_with_len}
use Rattle.std.proofs.lemmas.List.Sorted.{IsPermutation-keeps, IsPermutation-map, sum_by-IsPermutation}
use Rattle.std.proofs.lemmas.List.Sums.{sum_by-cons}
use Rattle.ndarray.specs.Index.{InBox}
use Rattle.ndarray.specs.Limits.{nonzero_size}
use Rattle.ndarray.specs.AxisOrders.{NamesEachAxis, unpermuted_index}
use Rattle.ndarray.specs.base.Nested.{AreNested, reach, reach_within, sum_over_axes}
use Rattle.ndarray.specs.base.Places.{dot, place, Reaches, Rearranges}
use Rattle.ndarray.proofs.boxes.Boxes.{InBox-from_each, InBox-get, InBox-length}
use Rattle.ndarray.proofs.boxes.Sizes.{nonzero-swap}
use Rattle.ndarray.proofs.lists.AxisOrders.{order-below, order-contains, order-length, order-place}
use Rattle.ndarray.proofs.strides.Nesting.{nested-fewer}

-- the numbers of a list at places
abbrev at_each : List ℕ → List ℕ → List ℕ
at_each xs ks = map (λ k. get_or xs k 0) ks

at-each : (xs ks : List ℕ) (i : ℕ) → i < length ks → get_or (at_each xs ks) i 0 ≡ get_or xs (get_or ks i 0) 0
at-each xs ks i lt = get_or-map (λ k. get_or xs k 0) ks i 0 0 lt

own-list : (xs : List ℕ) → at_each xs (range_with_len 0 (length xs)) ≡ xs
own-list xs =
    same_number_lists (at_each xs (range_with_len 0 (length xs))) xs (length-map-range_with_len (λ k. get_or xs k 0) 0 (length xs))
    (λ k lt. get_or-map-range_with_len (λ k. get_or xs k 0) 0 (length xs) k k 0 (omega (arith, lt, length-map-range_with_len (λ k. get_or xs k 0) 0 (length xs))) (omega arith))

-- ---- what axes count together, axis by axis

sum-shifted : (f g : ℕ → ℕ) (a b n : ℕ) → ((k : ℕ) → f (a + k) ≡ g (b + k)) → sum_by f (range_with_len a n) ≡ sum_by g (range_with_len b n)
sum-shifted f g a b zero same = refl
sum-shifted f g a b (suc n) same =
    let ih = sum-shifted f g (a + 1) (b + 1) n (λ k. ap f (omega arith) ∙ (same (k + 1) ∙ ap g (omega arith))) in
    let here : f a ≡ g b = ap f (omega arith) ∙ (same 0 ∙ ap g (omega arith)) in
    sum_by-cons f a (range_with_len (a + 1) n) ∙ (omega (arith, ih, here) ∙ sym (sum_by-cons g b (range_with_len (b + 1) n)))

module _ (f : ℕ → ℕ → ℕ) where
  sum-each : (ns bs : List ℕ) → length bs ≡ length ns → sum_over_axes f ns bs ≡ sum_by (λ k. f (get_or ns k 0) (get_or bs k 0)) (range_with_len 0 (length ns))
  unfolding sum_over_axes
  sum-each [] bs l = refl
  sum-each (n ∷ ns) [] l = absurd (omega arith)
  sum-each (n ∷ ns) (b ∷ bs) l =
      let ih = sum-each ns bs (omega arith) in
      let shift = sum-shifted (λ k. f (get_or ns k 0) (get_or bs k 0)) (λ k. f (get_or (n ∷ ns) k 0) (get_or (b ∷ bs) k 0)) 0 1 (length ns)
      (λ k. ap (λ j. f (get_or (n ∷ ns) j 0) (get_or (b ∷ bs) j 0)) (let e : suc (0 + k) ≡ 1 + k = omega arith in e)) in
      let all = sum_by-cons (λ k. f (get_or (n ∷ ns) k 0) (get_or (b ∷ bs) k 0)) 0 (range_with_len 1 (length ns)) in
      omega (arith, ih, shift, all)

  sum-chosen : (ns bs ks : List ℕ) → sum_over_axes f (at_each ns ks) (at_each bs ks) ≡ sum_by (λ k. f (get_or ns k 0) (get_or bs k 0)) ks
  unfolding sum_over_axes
  sum-chosen ns bs [] = refl
  sum-chosen ns bs (k ∷ ks) =
      let ih = sum-chosen ns bs ks in
      let all = sum_by-cons (λ k. f (get_or ns k 0) (get_or bs k 0)) k ks in
      omega (arith, ih, all)

  -- they count as much in another order
  sum-permuted : (ns bs ks : List ℕ) → length bs ≡ length ns → NamesEachAxis (length ns) ks → sum_over_axes f (at_each ns ks) (at_each bs ks) ≡ sum_over_axes f ns bs
  sum-permuted ns bs ks l order =
      sum-chosen ns bs ks
      ∙ (sum_by-IsPermutation (λ k. f (get_or ns k 0) (get_or bs k 0)) (range_with_len 0 (length ns)) ks order
      ∙ sym (sum-each ns bs l))

dot-counts : (bs is : List ℕ) → dot bs is ≡ sum_over_axes (λ b i. i * b) bs is
unfolding dot sum_over_axes
dot-counts [] is = refl
dot-counts (b ∷ bs) [] = refl
dot-counts (b ∷ bs) (i ∷ is) = let ih = dot-counts bs is in omega (arith, ih)

nonzero-permuted : (ns ks : List ℕ) → NamesEachAxis (length ns) ks → nonzero_size (at_each ns ks) ≡ nonzero_size ns
nonzero-permuted ns ks order =
    let moved : IsPermutation ns (at_each ns ks) = subst (λ l. IsPermutation l (at_each ns ks)) (own-list ns) (IsPermutation-map (λ k. get_or ns k 0) (range_with_len 0 (length ns)) ks order) in
    IsPermutation-keeps ns (λ l. nonzero_size l ≡ nonzero_size ns) refl (λ l i j hi hj e. nonzero-swap l i j hi hj ∙ e) (at_each ns ks) moved

-- ---- index lists

module _ (n : ℕ) (ks : List ℕ) (order : NamesEachAxis n ks) (is : List ℕ) (l : length is ≡ n) where
  unpermuted-length : length (unpermuted_index ks is) ≡ n
  unpermuted-length = length-map-range_with_len (λ k. get_or is (position_or_len (nat_eq k) ks) 0) 0 (length ks) ∙ order-length n ks order

  -- the index at the axis that is named at a place is the one there
  unpermuted-at : (i : ℕ) → i < n → get_or (unpermuted_index ks is) (get_or ks i 0) 0 ≡ get_or is i 0
  unpermuted-at i lt =
      get_or-map-range_with_len (λ k. get_or is (position_or_len (nat_eq k) ks) 0) 0 (length ks) (get_or ks i 0) (get_or ks i 0) 0 (omega (arith, order-below n ks order i lt, order-length n ks order)) (omega arith)
      ∙ ap (λ p. get_or is p 0) (order-place n ks order i lt)

  permuted-back : at_each (unpermuted_index ks is) ks ≡ is
  permuted-back =
      let many = length-map ks (λ k. get_or (unpermuted_index ks is) k 0) in
      let own = order-length n ks order in
      same_number_lists (at_each (unpermuted_index ks is) ks) is (omega (arith, many, own, l))
      (λ i lt. at-each (unpermuted_index ks is) ks i (omega (arith, lt, many)) ∙ unpermuted-at i (omega (arith, lt, many, own)))

InBox-unpermuted : (ns ks is : List ℕ) → NamesEachAxis (length ns) ks → InBox (at_each ns ks) is → InBox ns (unpermuted_index ks is)
InBox-unpermuted ns ks is order box =
    let own = order-length (length ns) ks order in
    let many = length-map ks (λ k. get_or ns k 0) in
    let l : length is ≡ length ns = omega (arith, InBox-length (at_each ns ks) is box, many, own) in
    InBox-from_each ns (unpermuted_index ks is) (unpermuted-length (length ns) ks order is l)
    (λ k lt.
    let (i, below, at) = order-contains (length ns) ks order k lt in
    let here : get_or ks i 0 ≡ k = get_or_default ks i 0 k below ∙ at in
    let index : get_or (unpermuted_index ks is) k 0 ≡ get_or is i 0 = ap (λ j. get_or (unpermuted_index ks is) j 0) (sym here) ∙ unpermuted-at (length ns) ks order is l i (omega (arith, below, own)) in
    let len : get_or (at_each ns ks) i 0 ≡ get_or ns k 0 = at-each ns ks i below ∙ ap (λ j. get_or ns j 0) here in
    let within = InBox-get (at_each ns ks) is i box (omega (arith, below, many)) in
    omega (arith, index, len, within))

dot-permuted : (bs ks is : List ℕ) → length bs ≡ length is → NamesEachAxis (length bs) ks → dot (at_each bs ks) is ≡ dot bs (unpermuted_index ks is)
dot-permuted bs ks is l order =
    let js = unpermuted_index ks is in
    ap (dot (at_each bs ks)) (sym (permuted-back (length bs) ks order is (sym l)))
    ∙ (dot-counts (at_each bs ks) (at_each js ks)
    ∙ (sum-permuted (λ b i. i * b) bs js ks (unpermuted-length (length bs) ks order is (sym l)) order
    ∙ sym (dot-counts bs js)))

nested-permuted : (ns bs ks : List ℕ) → length bs ≡ length ns → NamesEachAxis (length ns) ks → AreNested ns bs → AreNested (at_each ns ks) (at_each bs ks)
nested-permuted ns bs ks l order h =
    let own = order-length (length ns) ks order in
    let ln = length-map ks (λ k. get_or ns k 0) in
    let lb = length-map ks (λ k. get_or bs k 0) in
    nested-fewer ns bs (at_each ns ks) (at_each bs ks) l (omega (arith, ln, lb))
    (let t = sum-permuted reach ns bs ks l order in omega (arith, t))
    (λ m. let t = sum-permuted (reach_within m) ns bs ks l order in omega (arith, t))
    (λ k lt _. (get_or ks k 0, order-below (length ns) ks order k (omega (arith, lt, ln, own)), at-each ns ks k (omega (arith, lt, ln)), at-each bs ks k (omega (arith, lt, ln))))
    h

-- the array with its axes in another order lies where it lies at the index lists in the first order
pub rearranges-permuted : {A one : Type 0} (two : Type 0) (at : ℕ → Option A) (ns : List ℕ) (start : ℕ) (bs ks : List ℕ) → Reaches one at ns start bs → NamesEachAxis (length ns) ks
    → Rearranges two ns start bs (map (λ k. get_or ns k 0) ks) start (map (λ k. get_or bs k 0) ks) (unpermuted_index ks)
unfolding place
rearranges-permuted two at ns start bs ks h order =
    let many = h.as_many in
    let ln = length-map ks (λ k. get_or ns k 0) in
    let lb = length-map ks (λ k. get_or bs k 0) in
    let own = order-length (length ns) ks order in
    record {
      as_many = omega (arith, ln, lb);
      limit = let e = nonzero-permuted ns ks order in let l = h.limit in omega (arith, e, l);
      image = λ js box. InBox-unpermuted ns ks js order box;
      same = λ js box.
          let l = InBox-length (at_each ns ks) js box in
          ap (λ x. (start + x) % 2 ^ 64) (dot-permuted bs ks js (omega (arith, l, ln, own, many)) (subst (λ n. NamesEachAxis n ks) (sym many) order));
      nested = λ _. nested-permuted ns bs ks many order;
    }
