-- The products that a convolution adds up are those of all pairs of places that add up to the place.
use Rattle.std.proofs.Common.{◌≡◌, ◌≢◌, ℕ, zero, suc, ◌+◌, ◌-◌, ◌<◌, ◌≤◌, true, false, List, [], ◌∷◌, ◌++◌, length, Option, Some, None, refl, sym, ap, ◌∙◌, arith, inl, inr}
use Rattle.std.specs.Prelude.{◌==◌, if◌then◌else◌, filter_map, flat_map, nat_lt, slice_get}
use Rattle.std.specs.List.{range_with_len, cons_option}
use Rattle.std.proofs.lemmas.Bool.{cases_lt, cases_eq}
use Rattle.std.proofs.lemmas.Bool.Decides.{nat_tests}
use Rattle.std.proofs.lemmas.List.{append-nil}
use Rattle.std.proofs.lemmas.List.Elements.{filter_map-append}
use Rattle.std.proofs.lemmas.Option.{slice_get_past}
use Rattle.ndarray.specs.Algebra.{CommutativeMonoid}
use Rattle.ndarray.specs.Convolution.{convolution_products, product_of_both}
use Rattle.ndarray.proofs.convolution.ProductLists.{filter_map-range, no_second}
use Rattle.ndarray.proofs.lists.Ranges.{flat_map-range, range-append}

module _ {Y : Type 0} where
  pub none-along : (f : ℕ → Option Y) (a n : ℕ) → ((i : ℕ) → a ≤ i → i < a + n → f i ≡ None) → filter_map f (range_with_len a n) ≡ []
  none-along f a zero h = refl
  none-along f a (suc n) h = ap (λ o. cons_option o (filter_map f (range_with_len (a + 1) n))) (h a (omega arith) (omega arith)) ∙ none-along f (a + 1) n (λ i l m. h i (omega arith) (omega arith))

  -- two ranges from 0 on give the same where there is nothing past either
  same-along : (f h : ℕ → Option Y) (n m : ℕ) → ((i : ℕ) → i < n → i < m → f i ≡ h i) → ((i : ℕ) → m ≤ i → i < n → f i ≡ None) → ((i : ℕ) → n ≤ i → i < m → h i ≡ None) → filter_map f (range_with_len 0 n) ≡ filter_map h (range_with_len 0 m)
  same-along f h n m both left right =
      elim (cases_lt n m) [
        | inl lt ↦ (
            let e : n + (m - n) ≡ m = omega arith in
            let z : 0 + n ≡ n = omega arith in
            filter_map-range f h 0 n (λ i l k. both i (omega arith) (omega arith))
            ∙ (sym (append-nil (filter_map h (range_with_len 0 n)))
            ∙ (ap (λ l. filter_map h (range_with_len 0 n) ++ l) (sym (none-along h (0 + n) (m - n) (λ i l k. right i (omega arith) (omega arith))))
            ∙ (sym (filter_map-append h (range_with_len 0 n) (range_with_len (0 + n) (m - n)))
            ∙ ap (filter_map h) (sym (range-append 0 n (m - n)) ∙ ap (range_with_len 0) e)))))
        | inr le ↦ (
            let e : m + (n - m) ≡ n = omega arith in
            ap (filter_map f) (sym (ap (range_with_len 0) e) ∙ range-append 0 m (n - m))
            ∙ (filter_map-append f (range_with_len 0 m) (range_with_len (0 + m) (n - m))
            ∙ (ap (λ l. filter_map f (range_with_len 0 m) ++ l) (none-along f (0 + m) (n - m) (λ i l k. left i (omega arith) (omega arith)))
            ∙ (append-nil (filter_map f (range_with_len 0 m))
            ∙ filter_map-range f h 0 m (λ i l k. both i (omega arith) (omega arith))))))
      ]

  -- the one number of a range that adds up to s with i
  only : (F : ℕ → Option Y) (i s a n : ℕ) → i + a ≤ s → s < i + (a + n) → filter_map (λ j. if i + j == s then F j else None) (range_with_len a n) ≡ cons_option (F (s - i)) []
  only F i s a zero p q = absurd (omega arith)
  only F i s a (suc n) p q =
      elim (cases_eq (i + a) s) [
        | inl e ↦ (
            let here : (if i + a == s then F a else None) ≡ F (s - i) = (let t : (i + a == s) ≡ true = grind (arith, nat_tests) in rw t (ap F (omega arith))) in
            ap (λ o. cons_option o (filter_map (λ j. if i + j == s then F j else None) (range_with_len (a + 1) n))) here
            ∙ ap (cons_option (F (s - i))) (none-along (λ j. if i + j == s then F j else None) (a + 1) n (λ j l m. let t : (i + j == s) ≡ false = grind (arith, nat_tests) in rw t refl)))
        | inr ne ↦ (
            let here : (if i + a == s then F a else None) ≡ None = (let t : (i + a == s) ≡ false = grind (arith, nat_tests) in rw t refl) in
            ap (λ o. cons_option o (filter_map (λ j. if i + j == s then F j else None) (range_with_len (a + 1) n))) here
            ∙ only F i s (a + 1) n (omega arith) (omega arith))
      ]

  flat_map-options : (f : ℕ → Option Y) (l : List ℕ) → flat_map (λ i. cons_option (f i) []) l ≡ filter_map f l
  flat_map-options f [] = refl
  flat_map-options f (i ∷ l) = first (f i) (flat_map (λ j. cons_option (f j) []) l) ∙ ap (cons_option (f i)) (flat_map-options f l)
    where
      first : (o : Option Y) (r : List Y) → cons_option o [] ++ r ≡ cons_option o r
      first None r = refl
      first (Some y) r = refl

module _ {A C : Type 0} (times : CommutativeMonoid C) (value : A → C) where
  -- over all places i of the first list and j of the second, the products where i + j = s
  abbrev pub pair_products : List A → List A → ℕ → List C
  pair_products xs ys s = flat_map (λ i. filter_map (λ j. if i + j == s then product_of_both times value (slice_get xs i) (slice_get ys j) else None) (range_with_len 0 (length ys))) (range_with_len 0 (length xs))

  -- the pairs with one place of the first list
  row : (xs ys : List A) (s i : ℕ) → filter_map (λ j. if i + j == s then product_of_both times value (slice_get xs i) (slice_get ys j) else None) (range_with_len 0 (length ys)) ≡ cons_option (if nat_lt s i then None else product_of_both times value (slice_get xs i) (slice_get ys (s - i))) []
  row xs ys s i =
      let F = λ (j : ℕ). product_of_both times value (slice_get xs i) (slice_get ys j) in
      let none = λ (h : (j : ℕ) → 0 ≤ j → j < 0 + length ys → i + j ≢ s). none-along (λ j. if i + j == s then F j else None) 0 (length ys) (λ j l m. let ne = h j l m in let t : (i + j == s) ≡ false = grind (arith, nat_tests) in rw t refl) in
      elim (cases_lt s i) [
        | inl after ↦ (
            let t : nat_lt s i ≡ true = grind (arith, nat_tests) in
            none (λ j l m e. omega arith) ∙ rw t refl)
        | inr le ↦ (
            let t : nat_lt s i ≡ false = grind (arith, nat_tests) in
            elim (cases_lt (s - i) (length ys)) [
              | inl within ↦ only F i s 0 (length ys) (omega arith) (omega arith) ∙ rw t refl
              | inr past ↦ none (λ j l m e. omega arith) ∙ rw t (ap (λ o. cons_option o []) (sym (ap (product_of_both times value (slice_get xs i)) (slice_get_past ys (s - i) past) ∙ no_second times value (slice_get xs i))))
            ])
      ]

  pub pair_products-is : (xs ys : List A) (s : ℕ) → pair_products xs ys s ≡ convolution_products times value xs ys s
  pair_products-is xs ys s =
      let at = λ (i : ℕ). product_of_both times value (slice_get xs i) (slice_get ys (s - i)) in
      let up_to = λ (i : ℕ). if nat_lt s i then None else at i in
      let pairs = λ (i : ℕ). filter_map (λ j. if i + j == s then product_of_both times value (slice_get xs i) (slice_get ys j) else None) (range_with_len 0 (length ys)) in
      flat_map-range pairs (λ i. cons_option (up_to i) []) 0 (length xs) (λ i l m. row xs ys s i)
      ∙ (flat_map-options up_to (range_with_len 0 (length xs))
      ∙ same-along up_to at (length xs) (s + 1)
      (λ i l m. let t : nat_lt s i ≡ false = grind (arith, nat_tests) in rw t refl)
      (λ i l m. let t : nat_lt s i ≡ true = grind (arith, nat_tests) in rw t refl)
      (λ i l m. ap (λ o. product_of_both times value o (slice_get ys (s - i))) (slice_get_past xs i l)))
