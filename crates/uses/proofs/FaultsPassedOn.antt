-- Faults of calls, and what they say of what was asked for.
use Rattle.ndarray.proofs.Common.{◌≡◌, Result, Err, Ok, inl, inr, subst, sym, IfErr, IsErrAnd}
use Rattle.uses.specs.Faults.{IsFaultOf}
use Rattle.uses.specs.declared.fault.Fault.{Fault}

-- what was asked for does not exist
pub none-there : {A T : Type 0} (P : A → Type 0) (r : Result T Fault) → ((x : A) → P x → ⊥) → IfErr r (IsFaultOf P)
none-there P (Ok x) none = tt
none-there P (Err fault) none = inr none

-- what was asked for would have what a call asked for
pub passed-on : {A B T : Type 0} (P : A → Type 0) (Q : B → Type 0) (r : Result T Fault) (fault : Fault) → IsErrAnd r (λ y. y ≡ fault) → IsFaultOf P fault → ((y : B) → Q y → (x : A) × P x) → IfErr r (IsFaultOf Q)
passed-on P Q (Ok x) fault h p needs = absurd h
passed-on P Q (Err y) fault h (inl memory) needs = subst (IsFaultOf Q) (sym h) (inl memory)
passed-on P Q (Err y) fault h (inr none) needs = inr (λ z q. let (x, p) = needs z q in none x p)
