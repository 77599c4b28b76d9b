-- The products of two lists at a place, in either order of the lists.
use Rattle.std.proofs.Common.{◌≡◌, ℕ, ◌+◌, ◌-◌, List, [], ◌∷◌, ◌++◌, reverse, Option, Some, None, refl, sym, ap, ◌∙◌, arith}
use Rattle.std.specs.Prelude.{filter_map, slice_get, IsPermutation}
use Rattle.std.specs.List.{range_with_len, cons_option}
use Rattle.std.proofs.lemmas.List.{reverse-append}
use Rattle.std.proofs.lemmas.List.Elements.{filter_map-append}
use Rattle.std.proofs.lemmas.List.Sorted.{IsPermutation-reverse}
use Rattle.std.proofs.Common.{subst}
use Rattle.ndarray.specs.Algebra.{CommutativeMonoid}
use Rattle.ndarray.specs.Convolution.{convolution_products, product_of_both}
use Rattle.ndarray.proofs.convolution.Mirrors.{range-mirrored}
use Rattle.ndarray.proofs.convolution.ProductLists.{filter_map-map, filter_map-range}

reverse-one : {Y : Type 0} (o : Option Y) → reverse (cons_option o []) ≡ cons_option o []
reverse-one None = refl
reverse-one (Some y) = refl

cons_option-append : {Y : Type 0} (o : Option Y) (l : List Y) → cons_option o l ≡ cons_option o [] ++ l
cons_option-append None l = refl
cons_option-append (Some y) l = refl

pub reverse-filter_map : {X Y : Type 0} (f : X → Option Y) (xs : List X) → reverse (filter_map f xs) ≡ filter_map f (reverse xs)
reverse-filter_map f [] = refl
reverse-filter_map f (x ∷ xs) =
    ap reverse (cons_option-append (f x) (filter_map f xs))
    ∙ (reverse-append (cons_option (f x) []) (filter_map f xs)
    ∙ (ap (λ l. reverse (filter_map f xs) ++ l) (reverse-one (f x))
    ∙ (ap (λ l. l ++ cons_option (f x) []) (reverse-filter_map f xs)
    ∙ (sym (filter_map-append f (reverse xs) (x ∷ []))
    ∙ ap (filter_map f) (sym (reverse-append (x ∷ []) xs))))))

module _ {A C : Type 0} (times : CommutativeMonoid C) (value : A → C) where
  both-swapped : (x y : Option A) → product_of_both times value x y ≡ product_of_both times value y x
  both-swapped None None = refl
  both-swapped None (Some y) = refl
  both-swapped (Some x) None = refl
  both-swapped (Some x) (Some y) = ap (λ t. Some t) (times.commutes (value x) (value y))

  pub products-swapped : (xs ys : List A) (s : ℕ) → reverse (convolution_products times value xs ys s) ≡ convolution_products times value ys xs s
  products-swapped xs ys s =
      let f = λ (i : ℕ). product_of_both times value (slice_get xs i) (slice_get ys (s - i)) in
      let h = λ (i : ℕ). product_of_both times value (slice_get ys i) (slice_get xs (s - i)) in
      reverse-filter_map f (range_with_len 0 (s + 1))
      ∙ (ap (filter_map f) (sym (range-mirrored (s + 1)))
      ∙ (filter_map-map (λ i. s + 1 - 1 - i) f (range_with_len 0 (s + 1))
      ∙ filter_map-range (λ i. f (s + 1 - 1 - i)) h 0 (s + 1) (λ i l m.
      let a : s + 1 - 1 - i ≡ s - i = omega arith in
      let b : s - (s + 1 - 1 - i) ≡ i = omega arith in
      both-swapped (slice_get xs (s + 1 - 1 - i)) (slice_get ys (s - (s + 1 - 1 - i)))
      ∙ (ap (λ k. product_of_both times value (slice_get ys k) (slice_get xs (s + 1 - 1 - i))) b
      ∙ ap (λ k. product_of_both times value (slice_get ys i) (slice_get xs k)) a))))

  -- one is a rearrangement of the other
  pub products-rearranged : (xs ys : List A) (s : ℕ) → IsPermutation (convolution_products times value xs ys s) (convolution_products times value ys xs s)
  products-rearranged xs ys s = subst (IsPermutation (convolution_products times value xs ys s)) (products-swapped xs ys s) (IsPermutation-reverse (convolution_products times value xs ys s))
