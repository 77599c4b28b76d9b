-- Rows whose index on the axis is counted.
use Rattle.std.proofs.Common.{◌≡◌, ◌∙◌, ◌+◌, ◌-◌, ◌<◌, ◌∷◌, ℕ, zero, suc, List, ap, arith, get_or, inl, inr, length, refl, set, sym}
use Rattle.std.proofs.lemmas.Bool.{cases_lt}
use Rattle.std.proofs.lemmas.List.{get_or-set_same, set-get_or, set-set, set_past}
use Rattle.ndarray.specs.base.Ranks.{row_from}

pub counted-row : (is : List ℕ) (axis i left : ℕ) → 0 < left → row_from (set is axis i) axis left ≡ set is axis i ∷ row_from (set is axis (i + 1)) axis (left - 1)
counted-row is axis i zero some = absurd (omega arith)
counted-row is axis i (suc n) some =
    let next : set (set is axis i) axis (get_or (set is axis i) axis 0 + 1) ≡ set is axis (i + 1) = set-set is axis i _ ∙ elim (cases_lt axis (length is)) [
      | inl lt ↦ ap (λ j. set is axis (j + 1)) (get_or-set_same is axis i 0 lt)
      | inr past ↦ set_past is axis _ (omega (arith, past)) ∙ sym (set_past is axis (i + 1) (omega (arith, past)))
    ] in
    let e : n ≡ suc n - 1 = omega arith in
    ap (λ js. set is axis i ∷ row_from js axis n) next ∙ ap (λ m. set is axis i ∷ row_from (set is axis (i + 1)) axis m) e

-- that of the index that is there, or of any where there is none
pub counted-own : (is : List ℕ) (axis n i : ℕ) → (axis < length is → i ≡ get_or is axis 0) → row_from (set is axis i) axis n ≡ row_from is axis n
counted-own is axis n i own = ap (λ js. row_from js axis n) (elim (cases_lt axis (length is)) [
  | inl lt ↦ ap (set is axis) (own lt) ∙ set-get_or is axis 0
  | inr past ↦ set_past is axis i (omega (arith, past))
])

-- rows without a list
pub counted-none : (is js : List ℕ) (axis n : ℕ) → n ≡ 0 → row_from is axis n ≡ row_from js axis n
counted-none is js axis zero none = refl
counted-none is js axis (suc n) none = absurd (omega arith)
