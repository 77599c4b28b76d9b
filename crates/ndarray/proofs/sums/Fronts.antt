-- Sums of the first elements of a list.
use Rattle.std.proofs.Common.{◌≡◌, ◌∙◌, ap, ℕ, Bool, true, false, List, [], ◌∷◌, ◌++◌, sym, subst}
use Rattle.ndarray.specs.Algebra.{CommutativeMonoid}
use Rattle.ndarray.specs.Sums.{IsSummable, select, total}
use Rattle.ndarray.proofs.sums.Selections.{IsSummable-head, at_front, select-none}

-- the first elements are a selection
select-front : {A : Type 0} (xs ys : List A) → (keep : ℕ → Bool) × (select keep (xs ++ ys) ≡ xs)
select-front [] ys = ((λ _. false), select-none ys)
select-front (x ∷ xs) ys = let w = select-front xs ys in (at_front true w.0, ap (λ l. x ∷ l) w.1)

module _ {C : Type 0} (M : CommutativeMonoid C) where
  -- so where each selection has its sum in range, their sum is
  pub front-in-range : (in_range : C → Type 0) (xs ys : List C) → IsSummable M in_range (xs ++ ys) → in_range (total M xs)
  front-in-range in_range xs ys h = let w = select-front xs ys in subst in_range (ap (total M) w.1) (h w.0)

  later : (in_range : C → Type 0) (x : C) (xs : List C) → IsSummable M in_range (x ∷ xs) → IsSummable M in_range xs
  later in_range x xs h keep = h (at_front false keep)

  -- and each element is
  pub element-in-range : (in_range : C → Type 0) (xs : List C) (x : C) (ys : List C) → IsSummable M in_range (xs ++ (x ∷ ys)) → in_range x
  element-in-range in_range [] x ys h = IsSummable-head M in_range x ys h
  element-in-range in_range (y ∷ xs) x ys h = element-in-range in_range xs x ys (later in_range y (xs ++ (x ∷ ys)) h)

  -- the sum of one element more
  pub total-more : (xs : List C) (x : C) → total M (xs ++ (x ∷ [])) ≡ M.op (total M xs) x
  total-more [] x = M.commutes x M.unit
  total-more (y ∷ ys) x = ap (M.op y) (total-more ys x) ∙ sym (M.associates y (total M ys) x)
