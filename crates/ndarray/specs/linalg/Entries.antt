-- Arrays of what is computed at each index list.
use Rattle.std.specs.Prelude.{◌≡◌, ℕ, List, Some}
use Rattle.ndarray.specs.Grid.{Grid, IsGrid, cell}

-- the array has these lengths, and its cell at each index list is what is computed at the pattern of that list
pub record HasEntries {X A : Type 0} (numbers : X → List ℕ) (computes : X → A → Type 0) (ns : List ℕ) (r : Grid A) : Type 0 where
  pub lengths : r.lengths ≡ ns
  pub whole : IsGrid r
  pub cells : (is : List ℕ) (z : A) → cell r is ≡ Some z → (x : X) × (numbers x ≡ is) × computes x z
