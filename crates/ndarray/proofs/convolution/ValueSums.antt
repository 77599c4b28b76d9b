-- Lists of the values of a function.
use Rattle.std.proofs.Common.{◌≡◌, [], ◌++◌, ℕ, zero, suc, ◌+◌, ◌<◌, ◌≤◌, ◌∷◌, length, get_or, take, drop, refl, ap, ◌∙◌, arith}
use Rattle.ndarray.specs.Matrices.{values_below}

pub length-below : {C : Type 0} (n : ℕ) (f : ℕ → C) → length (values_below n f) ≡ n
length-below zero f = refl
length-below (suc n) f = ap suc (length-below n (λ k. f (suc k)))

pub below-same : {C : Type 0} (n m : ℕ) (f h : ℕ → C) → n ≡ m → ((i : ℕ) → i < n → f i ≡ h i) → values_below n f ≡ values_below m h
below-same zero zero f h e s = refl
below-same zero (suc m) f h e s = absurd (omega arith)
below-same (suc n) zero f h e s = absurd (omega arith)
below-same (suc n) (suc m) f h e s =
    ap (λ t. t ∷ values_below n (λ i. f (suc i))) (s 0 (omega arith))
    ∙ ap (λ l. h 0 ∷ l) (below-same n m (λ i. f (suc i)) (λ i. h (suc i)) (omega arith) (λ i l. s (suc i) (omega arith)))

pub get_or-below : {C : Type 0} (n : ℕ) (f : ℕ → C) (i : ℕ) (d : C) → i < n → get_or (values_below n f) i d ≡ f i
get_or-below zero f i d h = absurd (omega arith)
get_or-below (suc n) f zero d h = refl
get_or-below (suc n) f (suc i) d h = get_or-below n (λ k. f (suc k)) i d (omega arith)

-- the values from d on, k of them
pub part-below : {C : Type 0} (n : ℕ) (f : ℕ → C) (d k : ℕ) → d + k ≤ n → take k (drop d (values_below n f)) ≡ values_below k (λ i. f (d + i))
part-below n f zero zero h = refl
part-below zero f zero (suc k) h = absurd (omega arith)
part-below (suc n) f zero (suc k) h =
    ap (λ i. f i ∷ take k (values_below n (λ i. f (suc i)))) (let e : 0 ≡ 0 + 0 = omega arith in e)
    ∙ ap (λ l. f (0 + 0) ∷ l) (part-below n (λ i. f (suc i)) 0 k (omega arith) ∙ below-same k k (λ i. f (suc (0 + i))) (λ i. f (0 + suc i)) refl (λ i l. ap f (omega arith)))
part-below zero f (suc d) k h = absurd (omega arith)
part-below (suc n) f (suc d) k h =
    part-below n (λ i. f (suc i)) d k (omega arith) ∙ below-same k k (λ i. f (suc (d + i))) (λ i. f (suc d + i)) refl (λ i l. ap f (omega arith))

-- one more value
pub below-last : {C : Type 0} (n : ℕ) (f : ℕ → C) → values_below (n + 1) f ≡ values_below n f ++ f n ∷ []
below-last zero f = refl
below-last (suc n) f =
    ap (λ k. values_below k f) (let e : suc n + 1 ≡ suc (n + 1) = omega arith in e)
    ∙ ap (λ l. f 0 ∷ l) (below-last n (λ i. f (suc i)))
