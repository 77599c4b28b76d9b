-- What is left of elements that are moved out one by one.
use Rattle.std.specs.Prelude.{◌≡◌, ℕ, Bool, true, false, List, [], ◌∷◌, Option, Some, None, get_or}

module _ {X : Type 0} where
  -- the elements whose mark is true, each at its place
  abbrev pub remaining_slots : List X → List Bool → List (Option X)
  remaining_slots [] fs = []
  remaining_slots (x ∷ xs) [] = None ∷ remaining_slots xs []
  remaining_slots (x ∷ xs) (true ∷ fs) = Some x ∷ remaining_slots xs fs
  remaining_slots (x ∷ xs) (false ∷ fs) = None ∷ remaining_slots xs fs

  -- no place holds an element
  abbrev pub AllGone : List (Option X) → Type 0
  AllGone slots = (place : ℕ) → get_or slots place None ≡ None
