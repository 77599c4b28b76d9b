-- Elements of a list that are tested one after another: those to come hold where all do, and the other way round.
use Rattle.std.proofs.Common.{◌≡◌, ◌↔◌, List, ◌∷◌, All, subst, sym}
use Rattle.std.proofs.lemmas.List.Elements.{All-cons, All-head, All-tail}

module _ {X : Type 0} (P : X → Type 0) (xs now next : List X) (x : X) (first : now ≡ x ∷ next) where
  pub one-held : P x → (All P now ↔ All P xs) → (All P next ↔ All P xs)
  one-held p both = (
    λ rest. both.0 (subst (All P) (sym first) (All-cons P x next p rest)),
    λ all. All-tail P x next (subst (All P) first (both.1 all)),
  )

  pub one-held_from : P x → (All P now → All P xs) → All P next → All P xs
  one-held_from p so_far rest = so_far (subst (All P) (sym first) (All-cons P x next p rest))

  pub one-failed : (P x → ⊥) → (All P now ↔ All P xs) → All P xs → ⊥
  one-failed not both all = not (All-head P x next (subst (All P) first (both.1 all)))
