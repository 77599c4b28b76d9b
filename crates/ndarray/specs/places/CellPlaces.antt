-- The places of an array's cells, passed one after another.
use Rattle.std.specs.Prelude.{◌≡◌, ◌≢◌, ℕ, List, map, All, AllPairs, Contains}
use Rattle.ndarray.specs.Index.{InBox}
use Rattle.ndarray.specs.base.CellLayouts.{CellLayout, place_in}

-- how the cells lie, and the index lists that are still to come
pub record Stepping : Type 0 where
  pub layout : CellLayout
  pub ahead : List (List ℕ)

abbrev pub stepping : CellLayout → List (List ℕ) → Stepping
stepping m ys = record { layout = m; ahead = ys }

-- the places that are still to come
abbrev pub places_ahead : Stepping → List ℕ
places_ahead s = map (place_in s.layout) s.ahead

-- the place has an index list, which is no longer to come
abbrev pub HasPassed : Stepping → ℕ → Type 0
HasPassed s p = (is : List ℕ) × (InBox s.layout.lengths is × (place_in s.layout is ≡ p) × (Contains s.ahead is → ⊥))

-- the index lists to come are in the box, and none comes twice
pub record AreOnceInBox (ns : List ℕ) (ys : List (List ℕ)) : Type 0 where
  pub within : All (InBox ns) ys
  pub once : AllPairs (λ is js. is ≢ js) ys
