-- The products of two lists, added up one after another.
use Rattle.std.proofs.Common.{◌≡◌, ℕ, zero, suc, ◌+◌, ◌<◌, List, [], ◌∷◌, map, length, drop, get_or, refl, sym, ap, ◌∙◌, subst, arith, add-one, false, inl, inr, ◌⊎◌}
use Rattle.std.proofs.Math.Seq.{drop-cons}
use Rattle.std.proofs.lemmas.List.{length-map}
use Rattle.ndarray.specs.Algebra.{CommutativeMonoid}
use Rattle.ndarray.specs.Matrices.{values_below}
use Rattle.ndarray.specs.Products.{products_of}
use Rattle.ndarray.specs.Sums.{IsSummable, total}
use Rattle.ndarray.proofs.sums.RunningSum.{RunningSum, RunningSum-start, RunningSum-in_range, RunningSum-step, RunningSum-end}
use Rattle.ndarray.proofs.sums.Selections.{IsSummable-head, at_front}

pub products-none : {A C : Type 0} (times : CommutativeMonoid C) (v : A → C) (xs : List A) → products_of times v xs [] ≡ []
products-none times v [] = refl
products-none times v (x ∷ xs) = refl

-- the first products of two lists that go on
pub products-next : {A C : Type 0} (times : CommutativeMonoid C) (v : A → C) (ps qs ps1 qs1 : List A) (x y : A) → ps ≡ x ∷ ps1 → qs ≡ y ∷ qs1 → products_of times v ps qs ≡ times.op (v x) (v y) ∷ products_of times v ps1 qs1
products-next times v ps qs ps1 qs1 x y e f = ap (λ l. products_of times v l qs) e ∙ ap (products_of times v (x ∷ ps1)) f

-- there are none where one of the lists has ended
pub products-ended : {A C : Type 0} (times : CommutativeMonoid C) (v : A → C) (ps qs : List A) → (ps ≡ []) ⊎ (qs ≡ []) → products_of times v ps qs ≡ []
products-ended times v ps qs (inl none) = ap (λ l. products_of times v l qs) none
products-ended times v ps qs (inr none) = ap (products_of times v ps) none ∙ products-none times v ps

module _ {A C : Type 0} (plus times : CommutativeMonoid C) (P : C → Type 0) (v : A → C) (xs ys : List A) where
  -- sum is what the products before those of ps and qs add up to, and it may be added to each selection of these
  pub record RunningInner (ps qs : List A) (sum : C) : Type 0 where
    pub same : length ps ≡ length qs
    pub running : RunningSum plus P (products_of times v xs ys) (products_of times v ps qs) sum

  pub inner-start : (ps qs : List A) (sum : C) → ps ≡ xs → qs ≡ ys → sum ≡ plus.unit → length xs ≡ length ys → IsSummable plus P (products_of times v xs ys) → RunningInner ps qs sum
  inner-start ps qs sum e f none same h = record {
    same = ap length e ∙ (same ∙ sym (ap length f));
    running = RunningSum-start plus P _ _ sum (ap (λ l. products_of times v l qs) e ∙ ap (products_of times v xs) f) none h;
  }

  pub inner-end : (ps qs : List A) (sum : C) → (ps ≡ []) ⊎ (qs ≡ []) → RunningInner ps qs sum → sum ≡ total plus (products_of times v xs ys)
  inner-end ps qs sum none h = RunningSum-end plus P _ _ sum (products-ended times v ps qs none) h.running

  -- the next two are x and y
  module _ (ps qs ps1 qs1 : List A) (x y : A) (sum : C) (e : ps ≡ x ∷ ps1) (f : qs ≡ y ∷ qs1) (h : RunningInner ps qs sum) where
    next : products_of times v ps qs ≡ times.op (v x) (v y) ∷ products_of times v ps1 qs1
    next = products-next times v ps qs ps1 qs1 x y e f

    pub inner-product : P (times.op (v x) (v y))
    inner-product =
        let all : IsSummable plus P (sum ∷ times.op (v x) (v y) ∷ products_of times v ps1 qs1) = subst (λ l. IsSummable plus P (sum ∷ l)) next h.running.summable in
        IsSummable-head plus P (times.op (v x) (v y)) (products_of times v ps1 qs1) (λ keep. all (at_front false keep))

    pub inner-added : P (plus.op sum (times.op (v x) (v y)))
    inner-added = RunningSum-in_range plus P _ _ (products_of times v ps1 qs1) (times.op (v x) (v y)) sum next h.running

    pub inner-next : (more : C) → more ≡ plus.op sum (times.op (v x) (v y)) → RunningInner ps1 qs1 more
    inner-next more m = record {
      same = (let s = h.same in let p = ap length e in let q = ap length f in omega (arith, s, p, q));
      running = RunningSum-step plus P _ _ (products_of times v ps1 qs1) (times.op (v x) (v y)) sum next h.running more m;
    }

-- the rest of a list from a place on
pub drop-next : {A : Type 0} (xs : List A) (i : ℕ) (x : A) → i < length xs → x ≡ get_or xs i x → drop i xs ≡ x ∷ drop (i + 1) xs
drop-next xs i x lt is = rw add-one (drop-cons xs i x lt ∙ (ap (λ y. y ∷ drop (suc i) xs) (sym is)))

-- the products from a place on
pub products-from : {A C : Type 0} (times : CommutativeMonoid C) (v : A → C) (xs ys : List A) (i : ℕ) (x y : A) → i < length xs → i < length ys → x ≡ get_or xs i x → y ≡ get_or ys i y
    → products_of times v (drop i xs) (drop i ys) ≡ times.op (v x) (v y) ∷ products_of times v (drop (i + 1) xs) (drop (i + 1) ys)
products-from times v xs ys i x y lt lt_y is is_y = products-next times v _ _ _ _ x y (drop-next xs i x lt is) (drop-next ys i y lt_y is_y)

-- the products of two lists of which the values are known
pub products-below : {A C : Type 0} (times : CommutativeMonoid C) (v : A → C) (xs ys : List A) (n : ℕ) (f h : ℕ → C)
    → map v xs ≡ values_below n f → map v ys ≡ values_below n h → products_of times v xs ys ≡ values_below n (λ k. times.op (f k) (h k))
products-below times v [] ys zero f h p q = refl
products-below times v [] ys (suc n) f h p q = absurd (cc)
products-below times v (x ∷ xs) ys zero f h p q = absurd (cc)
products-below times v (x ∷ xs) [] (suc n) f h p q = absurd (cc)
products-below times v (x ∷ xs) (y ∷ ys) (suc n) f h p q =
    let a : v x ≡ f 0 = cc in
    let b : v y ≡ h 0 = cc in
    let rest : products_of times v xs ys ≡ values_below n (λ k. times.op (f (suc k)) (h (suc k))) = products-below times v xs ys n (λ k. f (suc k)) (λ k. h (suc k)) (cc) (cc) in
    ap (λ t. times.op t (v y) ∷ products_of times v xs ys) a ∙ (ap (λ t. times.op (f 0) t ∷ products_of times v xs ys) b ∙ ap (λ l. times.op (f 0) (h 0) ∷ l) rest)

pub length-below : {C : Type 0} (n : ℕ) (f : ℕ → C) → length (values_below n f) ≡ n
length-below zero f = refl
length-below (suc n) f = ap suc (length-below n (λ k. f (suc k)))

-- so two lists meet, of values that are known
pub lists-meet : {A C : Type 0} (times : CommutativeMonoid C) (v : A → C) (xs ys : List A) (n m : ℕ) (f h : ℕ → C)
    → map v xs ≡ values_below n f → map v ys ≡ values_below m h → n ≡ m → (products_of times v xs ys ≡ values_below n (λ k. times.op (f k) (h k))) × (length xs ≡ length ys)
lists-meet times v xs ys n m f h p q e = (
  products-below times v xs ys n f h p (q ∙ ap (λ k. values_below k h) (sym e)),
  sym (length-map xs v) ∙ (ap length p ∙ (length-below n f ∙ (e ∙ (sym (length-below m h) ∙ (sym (ap length q) ∙ length-map ys v))))),
)
