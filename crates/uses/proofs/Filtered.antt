-- Results that are there exactly where a condition holds.
use Rattle.ndarray.proofs.Common.{◌≡◌, Option, None, Some, refl, subst, ◌↔◌, IsSome, false≢true}

pub fits-from_some : {A P : Type 0} (made : Option A) (x : A) → made ≡ Some x → (IsSome made ↔ P) → P
fits-from_some {P = P} made x is when = (subst (λ o. IsSome o ↔ P) is when).0 refl

pub unfit-from_none : {A P : Type 0} (made : Option A) → made ≡ None → (IsSome made ↔ P) → P → ⊥
unfit-from_none {P = P} made is when fits = false≢true ((subst (λ o. IsSome o ↔ P) is when).1 fits)
