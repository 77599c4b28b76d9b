-- Cells that are borrowed one after another, along a list of index lists.
use Rattle.std.specs.Prelude.{◌≡◌, ℕ, ◌+◌, ◌<◌, ◌^◌, List, length, map, zip, filter_map, Option, All, AllPairs, IsTrue, Bool, nat_eq}
use Rattle.std.specs.List.{list_any}
use Rattle.std.specs.Option.{is_some}
use Rattle.ndarray.specs.Index.{InBox}
use Rattle.ndarray.specs.Limits.{IsWithinLimit}
use Rattle.ndarray.specs.order.Rows.{joined}
use Rattle.ndarray.specs.base.Masks.{mask_from}
use Rattle.ndarray.specs.base.Places.{place}

-- the places of the index lists
abbrev pub places_along : ℕ → List ℕ → List (List ℕ) → List ℕ
places_along start bs iss = map (place start bs) iss

-- the index lists, each with its place
abbrev pub with_places : ℕ → List ℕ → List (List ℕ) → List (List ℕ × ℕ)
with_places start bs iss = map (λ is. (is, place start bs is)) iss

-- the places of index lists
abbrev pub places_of : List (List ℕ × ℕ) → List ℕ
places_of items = map (λ item. item.1) items

-- index lists with places, each with the element at its place
abbrev pub with_elements : {A : Type 0} → (ℕ → Option A) → List (List ℕ × ℕ) → List (List ℕ × A)
with_elements at items = zip (map (λ item. item.0) items) (filter_map at (places_of items))

-- each of the places has an element, and none comes twice
pub record AreDistinctPlaces {A : Type 0} (at : ℕ → Option A) (ps : List ℕ) : Type 0 where
  pub held : All (λ p. IsTrue (is_some (at p))) ps
  pub once : AllPairs (λ p q. p ≡ q → ⊥) ps

-- the rows are not empty, their index lists have as many indices as there are strides, and the places of all of them are distinct
pub record HaveRows {A : Type 0} (at : ℕ → Option A) (start : ℕ) (bs : List ℕ) (rows : List (List (List ℕ))) : Type 0 where
  pub each : All (λ row. (0 < length row) × All (λ is. length bs ≡ length is) row) rows
  pub distinct : AreDistinctPlaces at (places_along start bs (joined rows))

-- the rows are not empty and in the box, which has as many axes as there are strides; with `more` index lists they have fewer than 2 ^ 63
pub record HaveIndexedRows (ns bs : List ℕ) (rows : List (List (List ℕ))) (more : ℕ) : Type 0 where
  pub each : All (λ row. (0 < length row) × All (InBox ns) row) rows
  pub as_many : length bs ≡ length ns
  pub limit : IsWithinLimit ns
  pub few : more + length (joined rows) < 2 ^ 63

-- of n places, those in the list
unfoldable pub mask_at : List ℕ → ℕ → List Bool
mask_at ps n = mask_from (λ k. list_any (λ p. nat_eq p k) ps) 0 n
