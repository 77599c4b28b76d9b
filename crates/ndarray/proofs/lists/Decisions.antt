-- What a test's answer says of its condition.
use Rattle.std.proofs.Common.{true, false, rules, ◌↔◌, Option, None, Some, Ok, Err}
use Rattle.std.specs.Option.{is_some}
use Rattle.std.specs.Prelude.{IfErr, IsTrue, MatchOption, Result}

pub says_no : (P : Type 0) → (P → ⊥) → IsTrue false ↔ P
says_no P h = (λ b. absurd (search rules), λ p. absurd (h p))

pub says_yes : (P : Type 0) → P → IsTrue true ↔ P
says_yes P p = (λ _. p, λ _. search rules)

pub from_yes : (P : Type 0) → IsTrue true ↔ P → P
from_yes P h = h.0 (search rules)

-- what returns a value or none decides, too
pub says_some : {S : Type 0} (P : Type 0) (Q : S → Type 0) → ((s : S) → Q s → P) → (r : Option S) → MatchOption r (P → ⊥) Q → IsTrue (is_some r) ↔ P
says_some P Q holds None h = says_no P h
says_some P Q holds (Some s) h = says_yes P (holds s h)

pub from_some : {S : Type 0} (none : Type 0) (Q : S → Type 0) (R : Type 0) → ((s : S) → Q s → R) → (r : Option S) → MatchOption r none Q → IsTrue (is_some r) → R
from_some none Q R holds None h t = absurd (search rules)
from_some none Q R holds (Some s) h t = holds s h

-- what holds anyway holds where there is an error
pub holds_at_error : {X E : Type 0} (r : Result X E) (P : Type 0) → P → IfErr r (λ _. P)
holds_at_error (Ok x) P p = tt
holds_at_error (Err e) P p = p
