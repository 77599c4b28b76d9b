-- How an array's cells lie among the elements of its storage: for `base`, `subviews` and `places`.
use Rattle.std.specs.Prelude.{◌≡◌, ℕ, ◌+◌, ◌*◌, ◌%◌, ◌^◌, ◌<◌, List, [], ◌∷◌, length, map, filter_map, Option, IsTrue}
use Rattle.std.specs.Option.{is_some}
use Rattle.ndarray.specs.Index.{InBox, row_order, size}
use Rattle.ndarray.specs.Limits.{IsWithinLimit}
use Rattle.ndarray.specs.Grid.{Grid, grid}
use Rattle.ndarray.specs.base.Nested.{AreNested}

-- each index times its stride, added up
unfoldable pub dot : List ℕ → List ℕ → ℕ
dot [] is = 0
dot (b ∷ bs) [] = 0
dot (b ∷ bs) (i ∷ is) = i * b + dot bs is

-- where the cell of an index list lies. A stride is the bits of a signed number, so numbers count modulo 2 ^ 64
unfoldable pub place : ℕ → List ℕ → List ℕ → ℕ
place start bs is = (start + dot bs is) % 2 ^ 64

-- where the cells lie, in row order
abbrev pub places_at : List ℕ → ℕ → List ℕ → List ℕ
places_at ns start bs = map (place start bs) (row_order ns)

-- each index list of the box reaches a place that has an element, and where `one` holds the strides of a box that is
-- not empty are nested, so that no two reach the same
pub record Reaches {A : Type 0} (one : Type 0) (at : ℕ → Option A) (ns : List ℕ) (start : ℕ) (bs : List ℕ) : Type 0 where
  pub as_many : length bs ≡ length ns
  pub limit : IsWithinLimit ns
  pub inside : (is : List ℕ) → InBox ns is → IsTrue (is_some (at (place start bs is)))
  pub nested : one → 0 < size ns → AreNested ns bs

-- the cells that the box reaches, in row order
unfoldable pub cells_at : {A : Type 0} → (ℕ → Option A) → List ℕ → ℕ → List ℕ → List A
cells_at at ns start bs = filter_map (λ is. at (place start bs is)) (row_order ns)

-- the array that the box reaches
abbrev pub grid_at : {A : Type 0} → (ℕ → Option A) → List ℕ → ℕ → List ℕ → Grid A
grid_at at ns start bs = grid ns (cells_at at ns start bs)

-- each index list of the box of ns' lies where its image by f lies in that of ns, and where `one` holds nested strides
-- stay nested
pub record Rearranges (one : Type 0) (ns : List ℕ) (start : ℕ) (bs ns' : List ℕ) (start' : ℕ) (bs' : List ℕ) (f : List ℕ → List ℕ) : Type 0 where
  pub as_many : length bs' ≡ length ns'
  pub limit : IsWithinLimit ns'
  pub image : (js : List ℕ) → InBox ns' js → InBox ns (f js)
  pub same : (js : List ℕ) → InBox ns' js → place start' bs' js ≡ place start bs (f js)
  pub nested : one → AreNested ns bs → AreNested ns' bs'
