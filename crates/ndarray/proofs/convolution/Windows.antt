-- The full convolution by windows of the first list between zeros.
use Rattle.std.proofs.Common.{◌≡◌, ℕ, zero, suc, ◌+◌, ◌-◌, ◌<◌, List, [], ◌∷◌, ◌++◌, length, replicate, reverse, take, drop, get_or, Option, Some, None, refl, sym, ap, ◌∙◌, arith, subst, add-one, length-append, length-drop}
use Rattle.std.specs.Prelude.{slice_get, filter_map}
use Rattle.std.specs.List.{range_with_len, cons_option}
use Rattle.std.proofs.lemmas.List.{drop_more, take_more, get_or-drop, get_or-append-add, length-replicate, length-reverse, reverse-append}
use Rattle.std.proofs.lemmas.List.Elements.{filter_map-append}
use Rattle.ndarray.specs.Algebra.{CommutativeMonoid}
use Rattle.ndarray.specs.Convolution.{product_of_both, convolution_products, filter_products, padded, full_length, full_convolution_by}
use Rattle.ndarray.specs.Matrices.{values_below}
use Rattle.ndarray.specs.Products.{products_of}
use Rattle.ndarray.specs.Sums.{total, IsSummable}
use Rattle.ndarray.proofs.convolution.ProductLists.{filter_map-range, no_second}
use Rattle.ndarray.proofs.lists.Ranges.{range-last}
use Rattle.ndarray.proofs.convolution.Full.{full_length-some, full_length-left}
use Rattle.ndarray.proofs.convolution.NeutralValues.{WithNeutral, WithNeutral-more, WithNeutral-append, WithNeutral-total, WithNeutral-summable}
use Rattle.ndarray.proofs.convolution.ValueSums.{below-same}

-- ---- windows of a list between copies of z

module _ {A : Type 0} (z : A) (xs : List A) where
  -- the window of m elements that ends at element s, with z before the first and after the last element
  abbrev pub window_to : ℕ → ℕ → List A
  window_to zero s = []
  window_to (suc k) zero = replicate k z ++ get_or xs 0 z ∷ []
  window_to (suc k) (suc s) = window_to k s ++ get_or xs (suc s) z ∷ []

  pub length-window_to : (m s : ℕ) → length (window_to m s) ≡ m
  length-window_to zero s = refl
  length-window_to (suc k) zero = length-append (replicate k z) (get_or xs 0 z ∷ []) ∙ (let e = length-replicate k z in omega arith)
  length-window_to (suc k) (suc s) = length-append (window_to k s) (get_or xs (suc s) z ∷ []) ∙ (let e = length-window_to k s in omega arith)

copies : {A : Type 0} (z : A) (r i : ℕ) → get_or (replicate r z) i z ≡ z
copies z zero i = refl
copies z (suc r) zero = refl
copies z (suc r) (suc i) = copies z r i

followed : {A : Type 0} (z : A) (xs : List A) (r i : ℕ) → get_or (xs ++ replicate r z) i z ≡ get_or xs i z
followed z [] r i = copies z r i
followed z (x ∷ xs) r zero = refl
followed z (x ∷ xs) r (suc i) = followed z xs r i

module _ {A : Type 0} (z : A) (xs : List A) (r : ℕ) where
  long : (s : ℕ) → s < length xs + r → s < length (xs ++ replicate r z)
  long s h = let a = length-append xs (replicate r z) in let b = length-replicate r z in omega arith

  one : (s : ℕ) → s < length xs + r → take 1 (drop s (xs ++ replicate r z)) ≡ get_or xs s z ∷ []
  one s h = ap (take 1) (drop_more (xs ++ replicate r z) s z (long s h)) ∙ ap (λ t. t ∷ []) (followed z xs r s)

  pub window_to-is : (k s : ℕ) → s < length xs + r → take (suc k) (drop s (replicate k z ++ (xs ++ replicate r z))) ≡ window_to z xs (suc k) s
  window_to-is zero zero h = one 0 h
  window_to-is zero (suc s) h = one (suc s) h
  window_to-is (suc k) zero h = ap (λ l. z ∷ l) (window_to-is k 0 h)
  window_to-is (suc k) (suc s) h =
      let ps : List A = replicate k z ++ (xs ++ replicate r z) in
      let q = long (suc s) h in
      let a = length-append (replicate k z) (xs ++ replicate r z) in
      let b = length-replicate k z in
      let d = length-drop s ps in
      let p : s + suc k ≡ length (replicate k z) + suc s = omega arith in
      ap (λ n. take n (drop s ps)) (sym (add-one (suc k)))
      ∙ (take_more (drop s ps) (suc k) z (omega arith)
      ∙ (ap (λ l. l ++ get_or (drop s ps) (suc k) z ∷ []) (window_to-is k s (omega arith))
      ∙ ap (λ t. window_to z xs (suc k) s ++ t ∷ []) (get_or-drop s ps (suc k) z ∙ (ap (λ n. get_or ps n z) p ∙ (get_or-append-add (replicate k z) (xs ++ replicate r z) (suc s) z ∙ followed z xs r (suc s))))))

-- ---- their products with the second list reversed

pub filter_map-none : {X Y : Type 0} (f : X → Option Y) (xs : List X) → ((x : X) → f x ≡ None) → filter_map f xs ≡ []
filter_map-none f [] h = refl
filter_map-none f (x ∷ xs) h = ap (λ o. cons_option o (filter_map f xs)) (h x) ∙ filter_map-none f xs h

module _ {A C : Type 0} (times : CommutativeMonoid C) (value : A → C) where
  products-none : (xs : List A) (s : ℕ) → convolution_products times value xs [] s ≡ []
  products-none xs s = filter_map-none _ (range_with_len 0 (s + 1)) (λ i. no_second times value (slice_get xs i))

  -- the last product apart
  products-last : (xs ys : List A) (y : A) (s : ℕ) → convolution_products times value xs (y ∷ ys) (suc s) ≡ convolution_products times value xs ys s ++ cons_option (product_of_both times value (slice_get xs (suc s)) (Some y)) []
  products-last xs ys y s =
      let at = λ (i : ℕ). product_of_both times value (slice_get xs i) (slice_get (y ∷ ys) (suc s - i)) in
      let before = λ (i : ℕ). product_of_both times value (slice_get xs i) (slice_get ys (s - i)) in
      let front : filter_map at (range_with_len 0 (suc s)) ≡ filter_map before (range_with_len 0 (suc s)) =
      filter_map-range at before 0 (suc s) (λ i l m. ap (λ k. product_of_both times value (slice_get xs i) (slice_get (y ∷ ys) k)) (let e : suc s - i ≡ suc (s - i) = omega arith in e)) in
      let zero_left : suc s - (0 + suc s) ≡ 0 = omega arith in
      let all : 0 + suc s ≡ suc s = omega arith in
      ap (λ n. filter_map at (range_with_len 0 n)) (add-one (suc s))
      ∙ (ap (filter_map at) (range-last 0 (suc s))
      ∙ (filter_map-append at (range_with_len 0 (suc s)) ((0 + suc s) ∷ [])
      ∙ (ap (λ l. l ++ cons_option (at (0 + suc s)) []) (front ∙ ap (λ n. filter_map before (range_with_len 0 n)) (sym (add-one s)))
      ∙ ap (λ o. convolution_products times value xs ys s ++ cons_option o []) (ap (λ k. product_of_both times value (slice_get xs (0 + suc s)) (slice_get (y ∷ ys) k)) zero_left ∙ ap (λ k. product_of_both times value (slice_get xs k) (Some y)) all))))

  pub products_of-last : (us vs : List A) (u v : A) → length us ≡ length vs → products_of times value (us ++ u ∷ []) (vs ++ v ∷ []) ≡ products_of times value us vs ++ times.op (value u) (value v) ∷ []
  products_of-last [] [] u v e = refl
  products_of-last [] (w ∷ vs) u v e = absurd (omega arith)
  products_of-last (w ∷ us) [] u v e = absurd (omega arith)
  products_of-last (w ∷ us) (t ∷ vs) u v e = ap (λ l. times.op (value w) (value t) ∷ l) (products_of-last us vs u v (omega arith))

module _ {A C : Type 0} (plus times : CommutativeMonoid C) (value : A → C) where
  -- the full convolution by windows: at s, the window at s of the first list between zeros times the second reversed
  abbrev pub window_convolution_by : A → List A → List A → List C
  window_convolution_by z xs ys = values_below (full_length (length xs) (length ys)) (λ s. total plus (filter_products times value (padded z (length ys - 1) xs) ys s))

module _ {A C : Type 0} (plus times : CommutativeMonoid C) (value : A → C)
    (absorbs : (x : C) → times.op plus.unit x ≡ plus.unit)
    (z : A) (is_zero : value z ≡ plus.unit) where
  zero_product : (c : C) → times.op (value z) c ≡ plus.unit
  zero_product c = ap (λ t. times.op t c) is_zero ∙ absorbs c

  zero_products : (k : ℕ) (vs : List A) → WithNeutral plus (products_of times value (replicate k z) vs) []
  zero_products zero vs = WithNeutral.none
  zero_products (suc k) [] = WithNeutral.none
  zero_products (suc k) (v ∷ vs) = WithNeutral-more plus (times.op (value z) (value v)) _ [] (zero_product (value v)) (zero_products k vs)

  last_product : (xs : List A) (i : ℕ) (y : A) → WithNeutral plus (times.op (value (get_or xs i z)) (value y) ∷ []) (cons_option (product_of_both times value (slice_get xs i) (Some y)) [])
  last_product [] i y = WithNeutral-more plus (times.op (value z) (value y)) [] [] (zero_product (value y)) WithNeutral.none
  last_product (x ∷ xs) zero y = WithNeutral.both (times.op (value x) (value y)) [] [] WithNeutral.none
  last_product (x ∷ xs) (suc i) y = last_product xs i y

  -- the products of the window that ends at s are those of the convolution at s, with zeros put in
  pub window_to-products : (xs ys : List A) (s : ℕ) → WithNeutral plus (products_of times value (window_to z xs (length ys) s) (reverse ys)) (convolution_products times value xs ys s)
  window_to-products xs [] s = subst (WithNeutral plus []) (sym (products-none times value xs s)) WithNeutral.none
  window_to-products xs (y ∷ ys) zero =
      let k : ℕ = length ys in
      let e : products_of times value (replicate k z ++ get_or xs 0 z ∷ []) (reverse (y ∷ ys)) ≡ products_of times value (replicate k z) (reverse ys) ++ times.op (value (get_or xs 0 z)) (value y) ∷ [] =
      ap (products_of times value (replicate k z ++ get_or xs 0 z ∷ [])) (reverse-append (y ∷ []) ys)
      ∙ products_of-last times value (replicate k z) (reverse ys) (get_or xs 0 z) y (length-replicate k z ∙ sym (length-reverse ys)) in
      subst (λ l. WithNeutral plus l (convolution_products times value xs (y ∷ ys) 0)) (sym e)
      (WithNeutral-append plus _ [] _ _ (zero_products k (reverse ys)) (last_product xs 0 y))
  window_to-products xs (y ∷ ys) (suc s) =
      let k : ℕ = length ys in
      let e : products_of times value (window_to z xs k s ++ get_or xs (suc s) z ∷ []) (reverse (y ∷ ys)) ≡ products_of times value (window_to z xs k s) (reverse ys) ++ times.op (value (get_or xs (suc s) z)) (value y) ∷ [] =
      ap (products_of times value (window_to z xs k s ++ get_or xs (suc s) z ∷ [])) (reverse-append (y ∷ []) ys)
      ∙ products_of-last times value (window_to z xs k s) (reverse ys) (get_or xs (suc s) z) y (length-window_to z xs k s ∙ sym (length-reverse ys)) in
      subst (λ l. WithNeutral plus l (convolution_products times value xs (y ∷ ys) (suc s))) (sym e)
      (subst (WithNeutral plus (products_of times value (window_to z xs k s) (reverse ys) ++ times.op (value (get_or xs (suc s) z)) (value y) ∷ [])) (sym (products-last times value xs ys y s))
      (WithNeutral-append plus _ _ _ _ (window_to-products xs ys s) (last_product xs (suc s) y)))

  -- of a window of the first list between zeros
  pub padded-products : (xs ys : List A) (s : ℕ) → s < full_length (length xs) (length ys) → WithNeutral plus (filter_products times value (padded z (length ys - 1) xs) ys s) (convolution_products times value xs ys s)
  padded-products xs [] s h = subst (WithNeutral plus []) (sym (products-none times value xs s)) WithNeutral.none
  padded-products [] (y ∷ ys) s h = let e = full_length-left 0 (suc (length ys)) refl in absurd (omega arith)
  padded-products (x ∷ xs) (y ∷ ys) s h =
      let k : ℕ = length ys in
      let n = full_length-some (suc (length xs)) (suc k) (omega arith) (omega arith) in
      let one_fewer : suc k - 1 ≡ k = omega arith in
      let w : take (suc k) (drop s (padded z (suc k - 1) (x ∷ xs))) ≡ window_to z (x ∷ xs) (suc k) s = ap (λ j. take (suc k) (drop s (padded z j (x ∷ xs)))) one_fewer ∙ window_to-is z (x ∷ xs) k k s (omega arith) in
      subst (λ l. WithNeutral plus (products_of times value l (reverse (y ∷ ys))) (convolution_products times value (x ∷ xs) (y ∷ ys) s)) (sym w) (window_to-products (x ∷ xs) (y ∷ ys) s)

  pub padded-total : (xs ys : List A) (s : ℕ) → s < full_length (length xs) (length ys) → total plus (filter_products times value (padded z (length ys - 1) xs) ys s) ≡ total plus (convolution_products times value xs ys s)
  padded-total xs ys s h = WithNeutral-total plus _ _ (padded-products xs ys s h)

  -- each selection of a window's products has its sum in range where each of the convolution's has
  pub padded-summable : (P : C → Type 0) (xs ys : List A) (s : ℕ) → s < full_length (length xs) (length ys) → IsSummable plus P (convolution_products times value xs ys s) → IsSummable plus P (filter_products times value (padded z (length ys - 1) xs) ys s)
  padded-summable P xs ys s h = WithNeutral-summable plus P _ _ (padded-products xs ys s h)

  pub windows_agree : (xs ys : List A) → window_convolution_by plus times value z xs ys ≡ full_convolution_by plus times value xs ys
  windows_agree xs ys = below-same (full_length (length xs) (length ys)) _ _ _ refl (λ s h. padded-total xs ys s h)
