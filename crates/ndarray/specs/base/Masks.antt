-- Inside `subviews`: sub-views that share out the places of a storage, and the masks by which a region is split into them.
use Rattle.std.specs.Prelude.{◌≡◌, ℕ, zero, suc, Bool, nat_eq, List, [], ◌∷◌, map, Option, All, AllPairs, ⊤}
use Rattle.std.specs.List.{list_any}
use Rattle.ndarray.specs.Index.{InBox, row_order}
use Rattle.ndarray.specs.Grid.{Grid}
use Rattle.ndarray.specs.base.Places.{Reaches, grid_at}
use Rattle.ndarray.specs.base.CellLayouts.{CellLayout, place_in}

-- the place is one of those of the sub-view
unfoldable pub is_in : CellLayout → ℕ → Bool
is_in s k = list_any (λ is. nat_eq (place_in s is) k) (row_order s.lengths)

-- the place is one of those of the sub-views
unfoldable pub is_among : List CellLayout → ℕ → Bool
is_among ss k = list_any (λ s. is_in s k) ss

-- of n places from the k-th on, those that pass the test
abbrev pub mask_from : (ℕ → Bool) → ℕ → ℕ → List Bool
mask_from f k zero = []
mask_from f k (suc n) = f k ∷ mask_from f (suc k) n

-- of n places, those of the sub-views
unfoldable pub mask_of : List CellLayout → ℕ → List Bool
mask_of ss n = mask_from (is_among ss) 0 n

-- two sub-views have no place in common
abbrev pub AreApart : CellLayout → CellLayout → Type 0
AreApart s t = (is js : List ℕ) → InBox s.lengths is → InBox t.lengths js → place_in s is ≡ place_in t js → ⊥

-- each sub-view reaches elements, and no two have a place in common
pub record Shares {A : Type 0} (at : ℕ → Option A) (ss : List CellLayout) : Type 0 where
  pub each : All (λ s. Reaches ⊤ at s.lengths s.start s.strides) ss
  pub apart : AllPairs AreApart ss

-- both lists of sub-views share out the storage, and none of the one has a place in common with one of the other
pub record SharesBoth {A : Type 0} (at : ℕ → Option A) (xs ys : List CellLayout) : Type 0 where
  pub first : Shares at xs
  pub second : Shares at ys
  pub between : All (λ x. All (AreApart x) ys) xs

-- the arrays that the sub-views are
abbrev pub grids_at : {A : Type 0} → (ℕ → Option A) → List CellLayout → List (Grid A)
grids_at at ss = map (λ s. grid_at at s.lengths s.start s.strides) ss
