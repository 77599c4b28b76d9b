-- What is returned of a shape that is beyond the limit, or has another number of cells, and what that says of the condition.
use Rattle.std.proofs.Common.{◌≡◌, ◌↔◌, Ok, Err, ap}
use Rattle.std.specs.Prelude.{IsErrOf}
use Rattle.ndarray.specs.Errors.{shape_error}
use Rattle.ndarray.specs.declared.base.error.ErrorKind.TheVariants.{OutOfBounds, Overflow}

-- the two errors of a shape differ
overflow-differs : Overflow ≡ OutOfBounds → ⊥
overflow-differs q = cc

outside-differs : OutOfBounds ≡ Overflow → ⊥
outside-differs q = cc

pub overflow-apart : shape_error Overflow ≡ shape_error OutOfBounds → ⊥
overflow-apart q = overflow-differs (ap (λ e. e.kind) q)

pub outside-apart : shape_error OutOfBounds ≡ shape_error Overflow → ⊥
outside-apart q = outside-differs (ap (λ e. e.kind) q)

module _ {T E : Type 0} (P : Type 0) where
  pub is_error : (e d : E) → e ≡ d → P → IsErrOf {T = T} (Err e) d ↔ P
  is_error e d same p = (λ _. p, λ _. ap (λ x. Err x) same)

  pub is_other_error : (e d o : E) → e ≡ o → (o ≡ d → ⊥) → (P → ⊥) → IsErrOf {T = T} (Err e) d ↔ P
  is_other_error e d o is other never = (λ same. absurd (other (cc)), λ p. absurd (never p))

  pub is_no_error : (x : T) (d : E) → (P → ⊥) → IsErrOf (Ok x) d ↔ P
  is_no_error x d never = (λ same. absurd (cc), λ p. absurd (never p))
