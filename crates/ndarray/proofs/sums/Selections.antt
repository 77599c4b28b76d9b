-- Selections of a list, and what they tell of a summable one.
use Rattle.std.proofs.Common.{◌≡◌, ℕ, zero, suc, Bool, true, false, cond, List, [], ◌∷◌, ◌++◌, refl, sym, ap, ◌∙◌, subst, map, ◌↔◌}
use Rattle.ndarray.specs.Algebra.{CommutativeMonoid}
use Rattle.ndarray.specs.Sums.{total, total_by, select, IsSummable, IsSummableBy}

-- the mask b, and then keep
abbrev pub at_front : Bool → (ℕ → Bool) → ℕ → Bool
at_front b keep zero = b
at_front b keep (suc i) = keep i

pub select-none : {A : Type 0} (xs : List A) → select (λ _. false) xs ≡ []
select-none [] = refl
select-none (x ∷ xs) = select-none xs

-- a selection of the first elements
pub select-append : {A : Type 0} (keep : ℕ → Bool) (xs ys : List A) → (kept : ℕ → Bool) × (select kept (xs ++ ys) ≡ select keep xs)
select-append keep [] ys = ((λ _. false), select-none ys)
select-append keep (x ∷ xs) ys =
    let w = select-append (λ i. keep (suc i)) xs ys in
    (at_front (keep 0) w.0, ap (λ l. cond (keep 0) (x ∷ l) l) w.1)

module _ {C : Type 0} (M : CommutativeMonoid C) where
  pub op_unit : (a : C) → M.op a M.unit ≡ a
  op_unit a = M.commutes a M.unit ∙ M.unit_op a

  total-unit : (b : Bool) (xs : List C) → total M (cond b (M.unit ∷ xs) xs) ≡ total M xs
  total-unit true xs = M.unit_op (total M xs)
  total-unit false xs = refl

  total-joined : (b : Bool) (x y : C) (xs : List C) → total M (cond b (x ∷ cond b (y ∷ xs) xs) (cond b (y ∷ xs) xs)) ≡ total M (cond b (M.op x y ∷ xs) xs)
  total-joined true x y xs = sym (M.associates x y (total M xs))
  total-joined false x y xs = refl

  module _ (P : C → Type 0) where
    -- the first value is in range
    pub IsSummable-head : (x : C) (xs : List C) → IsSummable M P (x ∷ xs) → P x
    IsSummable-head x xs h =
        subst P (ap (λ ys. M.op x (total M ys)) (select-none xs) ∙ op_unit x) (h (at_front true (λ _. false)))

    -- the neutral value in front changes nothing
    pub IsSummable-unit : (xs : List C) → IsSummable M P xs → IsSummable M P (M.unit ∷ xs)
    IsSummable-unit xs h keep =
        subst P (sym (total-unit (keep 0) (select (λ i. keep (suc i)) xs))) (h (λ i. keep (suc i)))

    -- the first two values may be added
    pub IsSummable-joined : (x y : C) (xs : List C) → IsSummable M P (x ∷ y ∷ xs) → IsSummable M P (M.op x y ∷ xs)
    IsSummable-joined x y xs h keep =
        subst P (total-joined (keep 0) x y (select (λ i. keep (suc i)) xs)) (h (at_front (keep 0) keep))

-- the values of elements, as a list of their own
module _ {A C : Type 0} (M : CommutativeMonoid C) (value : A → C) where
  pub total_by-map : (xs : List A) → total_by M value xs ≡ total M (map value xs)
  total_by-map [] = refl
  total_by-map (x ∷ xs) = ap (M.op (value x)) (total_by-map xs)

  total-one : (b : Bool) (x : A) (xs : List A) (ys : List C) → total_by M value xs ≡ total M ys → total_by M value (cond b (x ∷ xs) xs) ≡ total M (cond b (value x ∷ ys) ys)
  total-one true x xs ys e = ap (M.op (value x)) e
  total-one false x xs ys e = e

  total_by-select : (keep : ℕ → Bool) (xs : List A) → total_by M value (select keep xs) ≡ total M (select keep (map value xs))
  total_by-select keep [] = refl
  total_by-select keep (x ∷ xs) = total-one (keep 0) x (select (λ i. keep (suc i)) xs) (select (λ i. keep (suc i)) (map value xs)) (total_by-select (λ i. keep (suc i)) xs)

  pub IsSummableBy-map : (P : C → Type 0) (xs : List A) → IsSummableBy M P value xs ↔ IsSummable M P (map value xs)
  IsSummableBy-map P xs = ((λ h keep. subst P (total_by-select keep xs) (h keep)), (λ h keep. subst P (sym (total_by-select keep xs)) (h keep)))
