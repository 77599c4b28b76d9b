-- Lists with neutral values put in: the sums are the same, and so are those of the selections.
use Rattle.std.proofs.Common.{◌≡◌, ℕ, zero, suc, Bool, true, false, List, [], ◌∷◌, ◌++◌, refl, sym, ap, ◌∙◌, subst}
use Rattle.std.specs.Prelude.{if◌then◌else◌}
use Rattle.ndarray.specs.Algebra.{CommutativeMonoid}
use Rattle.ndarray.specs.Sums.{total, select, IsSummable}

-- the first list is the second with neutral values put in
pub data WithNeutral {C : Type 0} (M : CommutativeMonoid C) : List C → List C → Type 0 where
  none : WithNeutral M [] []
  more : (ys xs : List C) → WithNeutral M ys xs → WithNeutral M (M.unit ∷ ys) xs
  both : (x : C) (ys xs : List C) → WithNeutral M ys xs → WithNeutral M (x ∷ ys) (x ∷ xs)

abbrev at_front : Bool → (ℕ → Bool) → ℕ → Bool
at_front b keep zero = b
at_front b keep (suc i) = keep i

module _ {C : Type 0} (M : CommutativeMonoid C) where
  -- a neutral value in front
  pub WithNeutral-more : (y : C) (ys xs : List C) → y ≡ M.unit → WithNeutral M ys xs → WithNeutral M (y ∷ ys) xs
  WithNeutral-more y ys xs e h = subst (λ t. WithNeutral M (t ∷ ys) xs) (sym e) (more ys xs h)

  pub WithNeutral-append : (ys xs vs us : List C) → WithNeutral M ys xs → WithNeutral M vs us → WithNeutral M (ys ++ vs) (xs ++ us)
  WithNeutral-append ys xs vs us none k = k
  WithNeutral-append ys xs vs us (more y1 x1 h) k = more (y1 ++ vs) (x1 ++ us) (WithNeutral-append y1 x1 vs us h k)
  WithNeutral-append ys xs vs us (both x y1 x1 h) k = both x (y1 ++ vs) (x1 ++ us) (WithNeutral-append y1 x1 vs us h k)

  pub WithNeutral-total : (ys xs : List C) → WithNeutral M ys xs → total M ys ≡ total M xs
  WithNeutral-total ys xs none = refl
  WithNeutral-total ys xs (more y1 x1 h) = M.unit_op (total M y1) ∙ WithNeutral-total y1 x1 h
  WithNeutral-total ys xs (both x y1 x1 h) = ap (M.op x) (WithNeutral-total y1 x1 h)

  unit_in_front : (b : Bool) (l : List C) → total M (if b then M.unit ∷ l else l) ≡ total M l
  unit_in_front true l = M.unit_op (total M l)
  unit_in_front false l = refl

  same_in_front : (b : Bool) (x : C) (l m : List C) → total M l ≡ total M m → total M (if b then x ∷ l else l) ≡ total M (if b then x ∷ m else m)
  same_in_front true x l m e = ap (M.op x) e
  same_in_front false x l m e = e

  -- each selection has the sum of some selection of the list without them
  WithNeutral-select : (ys xs : List C) → WithNeutral M ys xs → (keep : ℕ → Bool) → (kept : ℕ → Bool) × (total M (select keep ys) ≡ total M (select kept xs))
  WithNeutral-select ys xs none keep = (keep, refl)
  WithNeutral-select ys xs (more y1 x1 h) keep =
      let w = WithNeutral-select y1 x1 h (λ i. keep (suc i)) in
      (w.0, unit_in_front (keep 0) (select (λ i. keep (suc i)) y1) ∙ w.1)
  WithNeutral-select ys xs (both x y1 x1 h) keep =
      let w = WithNeutral-select y1 x1 h (λ i. keep (suc i)) in
      (at_front (keep 0) w.0, same_in_front (keep 0) x (select (λ i. keep (suc i)) y1) (select w.0 x1) w.1)

  pub WithNeutral-summable : (P : C → Type 0) (ys xs : List C) → WithNeutral M ys xs → IsSummable M P xs → IsSummable M P ys
  WithNeutral-summable P ys xs h s = λ keep. let w = WithNeutral-select ys xs h keep in subst P (sym w.1) (s w.0)
