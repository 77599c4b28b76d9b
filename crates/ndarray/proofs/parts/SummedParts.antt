-- Sums of parts of a list.
use Rattle.std.proofs.Common.{◌≡◌, ℕ, zero, suc, ◌<◌, ◌||◌, Bool, true, false, cond, List, [], ◌∷◌, ◌++◌, length, get_or, refl, sym, ap, subst, ◌∙◌, arith}
use Rattle.ndarray.specs.Algebra.{CommutativeMonoid}
use Rattle.ndarray.specs.PartialFolds.{AreApart, AreTwoParts, KeepsNothing, KeepsOneMore, kept_by_either}
use Rattle.ndarray.specs.Products.{products_of}
use Rattle.ndarray.specs.Sums.{IsSummable, IsSummableBy, select, total, total_by}
use Rattle.ndarray.proofs.parts.EighthParts.{below, below-all}
use Rattle.ndarray.proofs.parts.KeptPlaces.{one_more, select-all, select-more, select-same, select-select}
use Rattle.ndarray.proofs.sums.Selections.{select-none}

module _ {A C : Type 0} (M : CommutativeMonoid C) (v : A → C) where
  join_step : (a b : Bool) (x : A) (l m n : List A) → (a ≡ true → b ≡ true → ⊥) → total_by M v n ≡ M.op (total_by M v l) (total_by M v m) → total_by M v (cond (a || b) (x ∷ n) n) ≡ M.op (total_by M v (cond a (x ∷ l) l)) (total_by M v (cond b (x ∷ m) m))
  join_step true true x l m n h e = absurd (h refl refl)
  join_step true false x l m n h e = ap (M.op (v x)) e ∙ sym (M.associates (v x) (total_by M v l) (total_by M v m))
  join_step false true x l m n h e =
      ap (M.op (v x)) e
      ∙ (sym (M.associates (v x) (total_by M v l) (total_by M v m))
      ∙ (ap (λ t. M.op t (total_by M v m)) (M.commutes (v x) (total_by M v l))
      ∙ M.associates (total_by M v l) (v x) (total_by M v m)))
  join_step false false x l m n h e = e

  total-either : (p q : ℕ → Bool) (xs : List A) → AreApart p q → total_by M v (select (kept_by_either p q) xs) ≡ M.op (total_by M v (select p xs)) (total_by M v (select q xs))
  total-either p q [] h = sym (M.unit_op M.unit)
  total-either p q (x ∷ xs) h =
      join_step (p 0) (q 0) x _ _ _ (h 0) (total-either (λ i. p (suc i)) (λ i. q (suc i)) xs (λ i. h (suc i)))

  total-push : (xs : List A) (x : A) → total_by M v (xs ++ (x ∷ [])) ≡ M.op (total_by M v xs) (v x)
  total-push [] x = M.commutes (v x) M.unit
  total-push (y ∷ ys) x = ap (M.op (v y)) (total-push ys x) ∙ sym (M.associates (v y) (total_by M v ys) (v x))

  -- of no place
  pub sum-none : (xs : List A) (keep : ℕ → Bool) → KeepsNothing keep → M.unit ≡ total_by M v (select keep xs)
  sum-none xs keep none = ap (total_by M v) (sym (select-same keep (λ _. false) xs (λ k l. none k) ∙ select-none xs))

  -- of one place more
  pub sum-more : (xs : List A) (i : ℕ) (x : A) → i < length xs → x ≡ get_or xs i x → (keep next : ℕ → Bool) → KeepsOneMore keep i next → total_by M v (select next xs) ≡ M.op (total_by M v (select keep xs)) (v x)
  sum-more xs i x inside is keep next more = ap (total_by M v) (select-more keep next xs i x inside more is) ∙ total-push (select keep xs) x

  -- of two parts
  pub sum-joined : (xs : List A) (p q both : ℕ → Bool) → AreTwoParts p q both → (a b : C) → a ≡ total_by M v (select p xs) → b ≡ total_by M v (select q xs) → total_by M v (select both xs) ≡ M.op a b
  sum-joined xs p q both two a b e f =
      ap (total_by M v) (select-same both (kept_by_either p q) xs (λ k l. two.union k))
      ∙ (total-either p q xs two.apart ∙ (ap (λ t. M.op t (total_by M v (select q xs))) (sym e) ∙ ap (M.op a) (sym f)))

  -- of all places
  pub sum-all : (xs : List A) (n : ℕ) → length xs ≡ n → total_by M v (select (below n) xs) ≡ total_by M v xs
  sum-all xs n e = ap (total_by M v) (select-same (below n) (λ _. true) xs (λ k l. below-all n k (omega (arith, e))) ∙ select-all xs)

  module _ (P : C → Type 0) where
    -- a selection of a summable list is summable
    pub summable-selected : (keep : ℕ → Bool) (xs : List A) → IsSummableBy M P v xs → IsSummableBy M P v (select keep xs)
    summable-selected keep xs h q = let s = select-select keep q xs in subst (λ l. P (total_by M v l)) (sym s.1) (h s.0)

    -- each element of one is in range
    pub item-in_range : (xs : List A) (i : ℕ) (x : A) → i < length xs → x ≡ get_or xs i x → IsSummableBy M P v xs → P (v x)
    item-in_range xs i x inside is h =
        let only = one_more (λ _. false) i in
        subst P (sum-more xs i x inside is (λ _. false) only.0 (only.1 (λ k l. refl)) ∙ (ap (λ l. M.op (total_by M v l) (v x)) (select-none xs) ∙ M.unit_op (v x))) (h only.0)

-- the products of two lists' items, place by place
module _ {A C : Type 0} (times : CommutativeMonoid C) (v : A → C) where
  pub length-products : (xs ys : List A) → length xs ≡ length ys → length (products_of times v xs ys) ≡ length xs
  length-products [] ys e = refl
  length-products (x ∷ xs) [] e = absurd (omega arith)
  length-products (x ∷ xs) (y ∷ ys) e = ap suc (length-products xs ys (omega arith))

  products-at : (xs ys : List A) (i : ℕ) (x y : A) (d : C) → i < length xs → i < length ys → x ≡ get_or xs i x → y ≡ get_or ys i y → times.op (v x) (v y) ≡ get_or (products_of times v xs ys) i d
  products-at [] ys i x y d l m e f = absurd (omega arith)
  products-at (a ∷ xs) [] i x y d l m e f = absurd (omega arith)
  products-at (a ∷ xs) (b ∷ ys) zero x y d l m e f = ap (λ t. times.op (v t) (v y)) e ∙ ap (λ t. times.op (v a) (v t)) f
  products-at (a ∷ xs) (b ∷ ys) (suc i) x y d l m e f = products-at xs ys i x y d (omega arith) (omega arith) e f

  -- the next product is in range, and so is the sum with it
  module _ (plus : CommutativeMonoid C) (xs ys : List A) (long : length xs ≡ length ys) (i : ℕ) (x y : A) (inside : i < length xs) (e : x ≡ get_or xs i x) (f : y ≡ get_or ys i y) where
    in_list : i < length (products_of times v xs ys)
    in_list = let l = length-products xs ys long in omega (arith, l)

    at : times.op (v x) (v y) ≡ get_or (products_of times v xs ys) i (times.op (v x) (v y))
    at = products-at xs ys i x y (times.op (v x) (v y)) inside (omega arith) e f

    pub product-in_range : (P : C → Type 0) → IsSummable plus P (products_of times v xs ys) → P (times.op (v x) (v y))
    product-in_range P h = item-in_range plus (λ z. z) P (products_of times v xs ys) i (times.op (v x) (v y)) in_list at h

    pub product-more : (keep next : ℕ → Bool) → KeepsOneMore keep i next → (sum : C) → sum ≡ total plus (select keep (products_of times v xs ys)) → total plus (select next (products_of times v xs ys)) ≡ plus.op sum (times.op (v x) (v y))
    product-more keep next more sum s =
        sum-more plus (λ z. z) (products_of times v xs ys) i (times.op (v x) (v y)) in_list at keep next more
        ∙ ap (λ t. plus.op t (times.op (v x) (v y))) (sym s)
