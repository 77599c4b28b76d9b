-- What is known of all items as one row, where they are known to be one.
use Rattle.std.proofs.Common.{◌≡◌, Option, Some, None, IfSome, IsSome, MatchOption, ap, false, is_some, option_map, refl, sym, true, ◌∙◌}

pub one-mapped : {X Y : Type 0} (f : X → Y) (o : Option X) → IsSome o → IsSome (option_map f o)
one-mapped f None h = h
one-mapped f (Some x) h = h

pub one-said : {X Y : Type 0} (f : X → Y) (P : Y → Type 0) (o : Option X) → IfSome o (λ x. P (f x)) → IfSome (option_map f o) P
one-said f P None h = tt
one-said f P (Some x) h = h

pub one-missing : {X : Type 0} {o : Option X} → o ≡ None → IsSome o → ⊥
one-missing e h = let never : false ≡ true = ap is_some (sym e) ∙ h in cc

pub one-matches : {X : Type 0} {P : X → Type 0} (o : Option X) → IsSome o → ((x : X) → o ≡ Some x → P x) → MatchOption o ⊥ P
one-matches None h f = let never : false ≡ true = h in cc
one-matches (Some x) h f = f x refl
