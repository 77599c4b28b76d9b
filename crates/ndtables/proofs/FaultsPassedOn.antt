-- Faults of calls that are returned as they are.
use Rattle.std.proofs.Common.{◌≡◌, Result, Err, Ok, subst, sym}
use Rattle.std.specs.Prelude.{IfErr}
use Rattle.std.specs.Result.{IsErrAnd}

pub passed-on : {T E : Type 0} (P : E → Type 0) (r : Result T E) (fault : E) → IsErrAnd r (λ y. y ≡ fault) → P fault → IfErr r P
passed-on P (Ok x) fault h p = absurd h
passed-on P (Err y) fault h p = subst P (sym h) p

-- what is forbidden of two arrays as they are seen is so of themselves
pub of-seen : {A B : Type 0} (why : A → B → Type 0) (seen a : A) (seen_too b : B) → seen ≡ a → seen_too ≡ b → why seen seen_too → why a b
of-seen why seen a seen_too b same same_too h = subst (λ x. why x b) same (subst (why seen) same_too h)
