-- The products that a full convolution adds up at a place are those of the first list with the second backwards, where they lie over each other.
use Rattle.std.proofs.Common.{◌≡◌, ℕ, zero, suc, ◌+◌, ◌-◌, ◌<◌, ◌≤◌, List, [], ◌∷◌, ◌++◌, drop, length, reverse, Some, None, refl, sym, ap, ◌∙◌, arith}
use Rattle.std.specs.Prelude.{filter_map, slice_get, slice_index}
use Rattle.std.specs.List.{cons_option, range_with_len}
use Rattle.std.proofs.lemmas.List.{get_or-reverse, length-drop, length-reverse}
use Rattle.std.proofs.lemmas.List.Elements.{filter_map-append}
use Rattle.std.proofs.lemmas.Option.{slice_get-get_or, slice_get_past}
use Rattle.ndarray.specs.Algebra.{CommutativeMonoid}
use Rattle.ndarray.specs.Convolution.{convolution_products, product_of_both}
use Rattle.ndarray.specs.Grid.{Grid, IsGrid}
use Rattle.ndarray.specs.Products.{products_of}
use Rattle.ndarray.specs.Views.{axis_part}
use Rattle.ndarray.proofs.callers.Parts.{length-cells, rest-cells}
use Rattle.ndarray.proofs.convolution.Filters.{slice_get-later}
use Rattle.ndarray.proofs.convolution.Pairs.{none-along}
use Rattle.ndarray.proofs.lists.Ranges.{range-append}
use Rattle.ndarray.proofs.convolution.ProductLists.{filter_map-range, no_second}
use Rattle.ndarray.proofs.convolution.Windows.{filter_map-none}
use Rattle.ndarray.proofs.lists.Elements.{slice_get-Some}

-- a list backwards
slice_get-reverse : {A : Type 0} (ys : List A) (i : ℕ) → i < length ys → slice_get (reverse ys) i ≡ slice_get ys (length ys - 1 - i)
slice_get-reverse ys i lt =
    let (d, e) = slice_get-Some ys i lt in
    let l = length-reverse ys in
    slice_get-get_or (reverse ys) i d (omega arith)
    ∙ (ap (λ x. Some x) (get_or-reverse ys i d lt) ∙ sym (slice_get-get_or ys (length ys - 1 - i) d (omega arith)))

module _ {A C : Type 0} (times : CommutativeMonoid C) (value : A → C) where
  -- the products of two lists, place by place, along numbers from a on
  products_of-from : (us vs : List A) (a k : ℕ) → length vs ≤ k → products_of times value us vs ≡ filter_map (λ i. product_of_both times value (slice_get us (i - a)) (slice_get vs (i - a))) (range_with_len a k)
  products_of-from [] vs a k h = sym (filter_map-none (λ i. product_of_both times value None (slice_get vs (i - a))) (range_with_len a k) (λ i. refl))
  products_of-from (u ∷ us) [] a k h = sym (filter_map-none (λ i. product_of_both times value (slice_get (u ∷ us) (i - a)) None) (range_with_len a k) (λ i. no_second times value (slice_get (u ∷ us) (i - a))))
  products_of-from (u ∷ us) (v ∷ vs) a zero h = absurd (omega arith)
  products_of-from (u ∷ us) (v ∷ vs) a (suc k) h =
      let both = λ (j : ℕ). product_of_both times value (slice_get (u ∷ us) j) (slice_get (v ∷ vs) j) in
      let later = λ (i : ℕ). product_of_both times value (slice_get us (i - (a + 1))) (slice_get vs (i - (a + 1))) in
      let none : a - a ≡ 0 = omega arith in
      ap (λ l. times.op (value u) (value v) ∷ l)
      (products_of-from us vs (a + 1) k (omega arith)
      ∙ filter_map-range later (λ i. both (i - a)) (a + 1) k (λ i l m. ap both (let e : suc (i - (a + 1)) ≡ i - a = omega arith in e)))
      ∙ ap (λ o. cons_option o (filter_map (λ i. both (i - a)) (range_with_len (a + 1) k))) (sym (ap both none))

  -- the products at a place
  pub overlap-products : (xs ys : List A) (s : ℕ) → products_of times value (drop (s + 1 - length ys) xs) (drop (length ys - (s + 1)) (reverse ys)) ≡ convolution_products times value xs ys s
  overlap-products xs ys s =
      let m : ℕ = length ys in
      let a : ℕ = s + 1 - m in
      let b : ℕ = m - (s + 1) in
      let k : ℕ = s + 1 - a in
      let at = λ (i : ℕ). product_of_both times value (slice_get xs i) (slice_get ys (s - i)) in
      let lr = length-reverse ys in
      let ld = length-drop b (reverse ys) in
      let all : a + k ≡ s + 1 = omega arith in
      products_of-from (drop a xs) (drop b (reverse ys)) a k (omega arith)
      ∙ (filter_map-range (λ i. product_of_both times value (slice_get (drop a xs) (i - a)) (slice_get (drop b (reverse ys)) (i - a))) at a k
      (λ i l h.
      let first : a + (i - a) ≡ i = omega arith in
      let second : m - 1 - (b + (i - a)) ≡ s - i = omega arith in
      ap (λ o. product_of_both times value o (slice_get (drop b (reverse ys)) (i - a))) (slice_get-later xs a (i - a) ∙ ap (slice_get xs) first)
      ∙ ap (product_of_both times value (slice_get xs i)) (slice_get-later (reverse ys) b (i - a) ∙ (slice_get-reverse ys (b + (i - a)) (omega arith) ∙ ap (slice_get ys) second)))
      ∙ (ap (λ l. l ++ filter_map at (range_with_len a k)) (sym (none-along at 0 a (λ i l h. ap (product_of_both times value (slice_get xs i)) (slice_get_past ys (s - i) (omega arith)) ∙ no_second times value (slice_get xs i))))
      ∙ (sym (filter_map-append at (range_with_len 0 a) (range_with_len a k))
      ∙ (ap (λ l. filter_map at (range_with_len 0 a ++ l)) (ap (λ j. range_with_len j k) (let e : a ≡ 0 + a = omega arith in e))
      ∙ (ap (filter_map at) (sym (range-append 0 a k))
      ∙ ap (λ n. filter_map at (range_with_len 0 n)) all)))))

-- the cells of an array of one axis from one on
pub cells-from : {A : Type 0} (x view rest : Grid A) (first : ℕ) → view ≡ x → length x.lengths ≡ 1 → IsGrid view → first ≤ length x.cells
    → rest ≡ axis_part view 0 first (slice_index view.lengths 0) → rest.cells ≡ drop first x.cells
cells-from x view rest first same one whole le is_part =
    let one_view : length view.lengths ≡ 1 = ap (λ w. length w.lengths) same ∙ one in
    let as_many : length view.cells ≡ length x.cells = ap (λ w. length w.cells) same in
    let long = length-cells view one_view whole in
    ap (λ w. w.cells) is_part ∙ (rest-cells view one_view whole first (omega arith) ∙ ap (λ w. drop first w.cells) same)
