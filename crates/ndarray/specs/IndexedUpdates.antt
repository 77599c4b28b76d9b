-- The arguments of a closure that updates cells where they are.
use Rattle.std.specs.Prelude.{◌≡◌, ℕ, List}
use Rattle.ndarray.specs.Grid.{Grid}
use Rattle.ndarray.specs.Producers.{both}
use Rattle.ndarray.specs.Updates.{is_cell}

-- a pattern of the index list, and the array's cell there
abbrev pub is_pattern_and_cell : {A X : Type 0} → (X → List ℕ) → Grid A → List ℕ → X × A → Type 0
is_pattern_and_cell numbers g = both (λ i x. numbers x ≡ i) (is_cell g)
