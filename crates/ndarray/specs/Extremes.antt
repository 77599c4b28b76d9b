-- The least and the greatest cell of an array.
use Rattle.std.specs.Prelude.{◌≡◌, ℕ, Bool, true, false, List, Some}
use Rattle.std.specs.Ordering.{is_lt}
use Rattle.std.specs.declared.cmp.Ordering.{Ordering}
use Rattle.ndarray.specs.Grid.{Grid, cell}
use Rattle.ndarray.specs.Index.{IsBefore}

-- the first element is less than the second, or greater
module _ {A : Type 0} (cmp : A → A → Ordering) (x y : A) where
  abbrev pub less : Bool
  less = is_lt (cmp x y)

  abbrev pub greater : Bool
  greater = is_lt (cmp y x)

-- x is the cell at an index list, no cell beats it, and it beats those that come before it in row order
pub record IsFirstBestCell {A : Type 0} (beats : A → A → Bool) (g : Grid A) (is : List ℕ) (x : A) : Type 0 where
  pub here : cell g is ≡ Some x
  pub best : (js : List ℕ) (y : A) → cell g js ≡ Some y → beats y x ≡ false
  pub first : (js : List ℕ) (y : A) → cell g js ≡ Some y → IsBefore js is → beats x y ≡ true
