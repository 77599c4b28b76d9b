-- Elements that are moved out along a sequence of places.
use Rattle.std.specs.Prelude.{◌≡◌, ℕ, ◌<◌, List, length, filter_map, All, Option, None, get_or}
use Rattle.ndarray.specs.base.Slots.{IsFilled}

module _ {X : Type 0} where
  -- the elements at the places, in the order of these
  abbrev pub found : List (Option X) → List ℕ → List X
  found slots places = filter_map (λ place. get_or slots place None) places

  -- each place still holds its element, unless the way has passed it; and so do those that are to come
  pub record HoldsAllButPassed (passed : ℕ → Type 0) (to_come : List ℕ) (slots : List (Option X)) : Type 0 where
    pub there : (place : ℕ) → place < length slots → (passed place → ⊥) → IsFilled slots place
    pub gone : (place : ℕ) → passed place → get_or slots place None ≡ None
    pub ahead : All (IsFilled slots) to_come
