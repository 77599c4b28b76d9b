-- The values of a summable list, added one after the other.
use Rattle.std.proofs.Common.{◌≡◌, false, List, [], ◌∷◌, ◌++◌, refl, sym, ap, ◌∙◌, subst}
use Rattle.ndarray.specs.Algebra.{CommutativeMonoid}
use Rattle.ndarray.specs.Sums.{total, IsSummable}
use Rattle.ndarray.proofs.sums.Selections.{at_front, op_unit, select-append, IsSummable-head, IsSummable-unit, IsSummable-joined}

-- sum is what the values of whole before rest add up to, and it may be added to each selection of rest
pub record RunningSum {C : Type 0} (M : CommutativeMonoid C) (P : C → Type 0) (whole rest : List C) (sum : C) : Type 0 where
  pub summable : IsSummable M P (sum ∷ rest)
  pub same : M.op sum (total M rest) ≡ total M whole

module _ {C : Type 0} (M : CommutativeMonoid C) (P : C → Type 0) where
  pub RunningSum-start : (whole rest : List C) (sum : C) → rest ≡ whole → sum ≡ M.unit → IsSummable M P whole → RunningSum M P whole rest sum
  RunningSum-start whole rest sum all zero h = record {
    summable = subst (λ s. IsSummable M P (s ∷ rest)) (sym zero) (IsSummable-unit M P rest (subst (IsSummable M P) (sym all) h));
    same = ap (λ s. M.op s (total M rest)) zero ∙ M.unit_op (total M rest) ∙ ap (total M) all;
  }

  pub RunningSum-end : (whole rest : List C) (sum : C) → rest ≡ [] → RunningSum M P whole rest sum → sum ≡ total M whole
  RunningSum-end whole rest sum none h = sym (ap (λ ys. M.op sum (total M ys)) none ∙ op_unit M sum) ∙ h.same

  -- the next value is x
  module _ (whole now rest : List C) (x sum : C) (next : now ≡ x ∷ rest) (h : RunningSum M P whole now sum) where
    joined : IsSummable M P (M.op sum x ∷ rest)
    joined = IsSummable-joined M P sum x rest (subst (λ ys. IsSummable M P (sum ∷ ys)) next h.summable)

    pub RunningSum-in_range : P (M.op sum x)
    RunningSum-in_range = IsSummable-head M P (M.op sum x) rest joined

    pub RunningSum-step : (more : C) → more ≡ M.op sum x → RunningSum M P whole rest more
    RunningSum-step more e = record {
      summable = subst (λ s. IsSummable M P (s ∷ rest)) (sym e) joined;
      same = ap (λ s. M.op s (total M rest)) e
          ∙ M.associates sum x (total M rest)
          ∙ sym (ap (λ ys. M.op sum (total M ys)) next)
          ∙ h.same;
    }

-- the next values are those of a list
module _ {C : Type 0} (M : CommutativeMonoid C) (P : C → Type 0) (whole rest : List C) where
  pub RunningSum-run : (xs : List C) (sum : C) → RunningSum M P whole (xs ++ rest) sum → P (M.op sum (total M xs)) × RunningSum M P whole rest (M.op sum (total M xs))
  RunningSum-run [] sum h =
      let e = op_unit M sum in
      (subst P (sym e) (IsSummable-head M P sum rest h.summable), subst (RunningSum M P whole rest) (sym e) h)
  RunningSum-run (x ∷ xs) sum h =
      let next = RunningSum-step M P whole (x ∷ (xs ++ rest)) (xs ++ rest) x sum refl h (M.op sum x) refl in
      let w = RunningSum-run xs (M.op sum x) next in
      let e = M.associates sum x (total M xs) in
      (subst P e w.0, subst (RunningSum M P whole rest) e w.1)

  -- and these may be added up by themselves
  pub RunningSum-front : (xs : List C) (sum : C) → RunningSum M P whole (xs ++ rest) sum → IsSummable M P xs
  RunningSum-front xs sum h keep =
      let w = select-append keep xs rest in
      subst (λ l. P (total M l)) w.1 (h.summable (at_front false w.0))
