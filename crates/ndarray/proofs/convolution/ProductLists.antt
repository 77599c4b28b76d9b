-- The list of the products that a convolution adds up, at one place.
use Rattle.std.proofs.Common.{◌≡◌, ℕ, zero, suc, ◌+◌, ◌-◌, ◌<◌, ◌≤◌, List, [], ◌∷◌, map, length, Option, Some, None, refl, sym, ap, ◌∙◌, arith, add-one}
use Rattle.std.specs.Prelude.{slice_get, filter_map}
use Rattle.std.specs.List.{range_with_len, cons_option}
use Rattle.ndarray.specs.Algebra.{CommutativeMonoid}
use Rattle.ndarray.specs.Convolution.{product_of_both, convolution_products}
use Rattle.ndarray.specs.Sums.{total}
use Rattle.ndarray.proofs.convolution.Cauchy.{cauchy}
use Rattle.ndarray.proofs.lists.Ranges.{range-later}

pub filter_map-map : {X Y Z : Type 0} (f : X → Y) (h : Y → Option Z) (xs : List X) → filter_map h (map f xs) ≡ filter_map (λ x. h (f x)) xs
filter_map-map f h [] = refl
filter_map-map f h (x ∷ xs) = ap (cons_option (h (f x))) (filter_map-map f h xs)

-- numbers from a on: what a function gives that agrees with another one on them
pub filter_map-range : {Y : Type 0} (f h : ℕ → Option Y) (a n : ℕ) → ((i : ℕ) → a ≤ i → i < a + n → f i ≡ h i) → filter_map f (range_with_len a n) ≡ filter_map h (range_with_len a n)
filter_map-range f h a zero e = refl
filter_map-range f h a (suc n) e =
    ap (λ o. cons_option o (filter_map f (range_with_len (a + 1) n))) (e a (omega arith) (omega arith))
    ∙ ap (cons_option (h a)) (filter_map-range f h (a + 1) n (λ i l m. e i (omega arith) (omega arith)))

-- there is no product where there is no second element
pub no_second : {A C : Type 0} (times : CommutativeMonoid C) (value : A → C) (x : Option A) → product_of_both times value x None ≡ None
no_second times value None = refl
no_second times value (Some x) = refl

module _ {A C : Type 0} (plus times : CommutativeMonoid C) (value : A → C) where
  -- the value of an element, and zero where there is none
  abbrev pub value_or_zero : Option A → C
  value_or_zero None = plus.unit
  value_or_zero (Some x) = value x

  -- the value at a place of a list, and zero past its end
  abbrev pub value_at : List A → ℕ → C
  value_at xs i = value_or_zero (slice_get xs i)

  pub value_at-past : (xs : List A) (i : ℕ) → length xs ≤ i → value_at xs i ≡ plus.unit
  value_at-past [] i h = refl
  value_at-past (x ∷ xs) zero h = absurd (omega arith)
  value_at-past (x ∷ xs) (suc i) h = value_at-past xs i (omega arith)

  module _ (absorbs : (x : C) → times.op plus.unit x ≡ plus.unit) where
    pub absorbs_right : (x : C) → times.op x plus.unit ≡ plus.unit
    absorbs_right x = times.commutes x plus.unit ∙ absorbs x

    total-first : (x y : Option A) (l : List C) → total plus (cons_option (product_of_both times value x y) l) ≡ plus.op (times.op (value_or_zero x) (value_or_zero y)) (total plus l)
    total-first None y l = sym (ap (λ t. plus.op t (total plus l)) (absorbs (value_or_zero y)) ∙ plus.unit_op (total plus l))
    total-first (Some x) None l = sym (ap (λ t. plus.op t (total plus l)) (absorbs_right (value x)) ∙ plus.unit_op (total plus l))
    total-first (Some x) (Some y) l = refl

    -- the products over i + j = s, added up
    total-pairs : (F G : ℕ → Option A) (s : ℕ) → total plus (filter_map (λ i. product_of_both times value (F i) (G (s - i))) (range_with_len 0 (suc s))) ≡ cauchy plus times (λ i. value_or_zero (F i)) (λ j. value_or_zero (G j)) s
    total-pairs F G zero = total-first (F 0) (G 0) [] ∙ (plus.commutes _ plus.unit ∙ plus.unit_op _)
    total-pairs F G (suc s) =
        let at = λ (i : ℕ). product_of_both times value (F i) (G (suc s - i)) in
        let later = λ (i : ℕ). product_of_both times value (F (suc i)) (G (s - i)) in
        let rest : filter_map at (range_with_len 1 (suc s)) ≡ filter_map later (range_with_len 0 (suc s)) =
        ap (filter_map at) (range-later 0 (suc s))
        ∙ (filter_map-map suc at (range_with_len 0 (suc s))
        ∙ filter_map-range (λ i. at (suc i)) later 0 (suc s) (λ i l m. ap (λ k. product_of_both times value (F (suc i)) (G k)) (omega arith))) in
        total-first (F 0) (G (suc s - 0)) (filter_map at (range_with_len 1 (suc s)))
        ∙ (ap (λ k. plus.op (times.op (value_or_zero (F 0)) (value_or_zero (G k))) (total plus (filter_map at (range_with_len 1 (suc s))))) (omega arith)
        ∙ ap (plus.op (times.op (value_or_zero (F 0)) (value_or_zero (G (suc s))))) (ap (total plus) rest ∙ total-pairs (λ i. F (suc i)) G s))

    pub total-convolution_products : (xs ys : List A) (s : ℕ) → total plus (convolution_products times value xs ys s) ≡ cauchy plus times (value_at xs) (value_at ys) s
    total-convolution_products xs ys s =
        ap (λ n. total plus (filter_map (λ i. product_of_both times value (slice_get xs i) (slice_get ys (s - i))) (range_with_len 0 n))) (add-one s)
        ∙ total-pairs (slice_get xs) (slice_get ys) s
