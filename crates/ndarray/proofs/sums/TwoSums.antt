-- The values of a summable list added by two running sums, of which the second is still to be added to the first.
use Rattle.std.proofs.Common.{◌≡◌, ◌∙◌, List, [], ◌∷◌, ap, refl, subst, sym}
use Rattle.std.proofs.lemmas.List.Sorted.{IsPermutation-cons, IsPermutation-middle}
use Rattle.ndarray.specs.Algebra.{CommutativeMonoid}
use Rattle.ndarray.specs.Sums.{IsSummable, total}
use Rattle.ndarray.proofs.sums.Rearrangements.{IsSummable-rearranged}
use Rattle.ndarray.proofs.sums.RunningSum.{RunningSum, RunningSum-end, RunningSum-in_range, RunningSum-start, RunningSum-step}
use Rattle.ndarray.proofs.sums.Selections.{IsSummable-unit}

module _ {C : Type 0} (M : CommutativeMonoid C) (P : C → Type 0) (whole : List C) where
  -- a sum of two values and a list, in the other order
  exchanged : (x y s : C) → M.op x (M.op y s) ≡ M.op y (M.op x s)
  exchanged x y s = sym (M.associates x y s) ∙ (ap (λ z. M.op z s) (M.commutes x y) ∙ M.associates y x s)

  -- the next value may be the sum, and the sum the next value
  other-first : (rest : List C) (x sum : C) → RunningSum M P whole (x ∷ rest) sum → RunningSum M P whole (sum ∷ rest) x
  other-first rest x sum h = record {
    summable = IsSummable-rearranged M P (sum ∷ x ∷ rest) (x ∷ sum ∷ rest) (IsPermutation-middle (sum ∷ []) x rest) h.summable;
    same = exchanged x sum (total M rest) ∙ h.same;
  }

  -- the next two values may be exchanged
  next-exchanged : (rest : List C) (x y sum : C) → RunningSum M P whole (x ∷ y ∷ rest) sum → RunningSum M P whole (y ∷ x ∷ rest) sum
  next-exchanged rest x y sum h = record {
    summable = IsSummable-rearranged M P (sum ∷ x ∷ y ∷ rest) (sum ∷ y ∷ x ∷ rest) (IsPermutation-cons sum (x ∷ y ∷ rest) (y ∷ x ∷ rest) (IsPermutation-middle (x ∷ []) y rest)) h.summable;
    same = ap (M.op sum) (exchanged y x (total M rest)) ∙ h.same;
  }

  pub TwoSums-start : (sum other : C) → sum ≡ M.unit → other ≡ M.unit → IsSummable M P whole → RunningSum M P whole (other ∷ whole) sum
  TwoSums-start sum other none zero h =
      other-first whole sum other
      (let started = RunningSum-start M P whole whole other refl zero h in
      record {
        summable = IsSummable-rearranged M P (sum ∷ other ∷ whole) (other ∷ sum ∷ whole) (IsPermutation-middle (sum ∷ []) other whole)
            (subst (λ s. IsSummable M P (s ∷ other ∷ whole)) (sym none) (IsSummable-unit M P (other ∷ whole) started.summable));
        same = ap (λ s. M.op other (M.op s (total M whole))) none ∙ (ap (M.op other) (M.unit_op (total M whole)) ∙ started.same);
      })

  -- the next value is x
  module _ (now rest : List C) (x sum other : C) (next : now ≡ x ∷ rest) (h : RunningSum M P whole (other ∷ now) sum) where
    first : RunningSum M P whole (x ∷ other ∷ rest) sum
    first = next-exchanged rest other x sum (subst (λ l. RunningSum M P whole (other ∷ l) sum) next h)

    pub TwoSums-can : P (M.op sum x)
    TwoSums-can = RunningSum-in_range M P whole (x ∷ other ∷ rest) (other ∷ rest) x sum refl first

    pub TwoSums-first : (more : C) → more ≡ M.op sum x → RunningSum M P whole (other ∷ rest) more
    TwoSums-first more e = RunningSum-step M P whole (x ∷ other ∷ rest) (other ∷ rest) x sum refl first more e

  -- the next two are x and y
  module _ (now rest : List C) (x y sum other : C) (next : now ≡ x ∷ y ∷ rest) (h : RunningSum M P whole (other ∷ now) sum) (more : C) (e : more ≡ M.op sum x) where
    second : RunningSum M P whole (more ∷ y ∷ rest) other
    second = other-first (y ∷ rest) other more (TwoSums-first now (y ∷ rest) x sum other next h more e)

    pub TwoSums-can_second : P (M.op other y)
    TwoSums-can_second = TwoSums-can (y ∷ rest) rest y other more refl second

    pub TwoSums-step : (others : C) → others ≡ M.op other y → RunningSum M P whole (others ∷ rest) more
    TwoSums-step others f = other-first rest more others (TwoSums-first (y ∷ rest) rest y other more refl second others f)

  -- where none is left
  module _ (rest : List C) (sum other : C) (none : rest ≡ []) (h : RunningSum M P whole (other ∷ rest) sum) where
    pub TwoSums-can_end : P (M.op sum other)
    TwoSums-can_end = RunningSum-in_range M P whole (other ∷ rest) rest other sum refl h

    pub TwoSums-end : (all : C) → all ≡ M.op sum other → all ≡ total M whole
    TwoSums-end all e = RunningSum-end M P whole rest all none (RunningSum-step M P whole (other ∷ rest) rest other sum refl h all e)
