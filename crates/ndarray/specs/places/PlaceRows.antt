-- The places of a row of index lists, and those behind it.
use Rattle.std.specs.Prelude.{◌≡◌, ℕ, ◌+◌, ◌<◌, List, ◌++◌, length, All}
use Rattle.ndarray.specs.places.ElementPlaces.{places_along}

-- of the places of ys, those of `row` come first, and then those of zs
pub record SplitsOffPlaces (start : ℕ) (bs : List ℕ) (ys : List (List ℕ)) (row : List ℕ) (zs : List (List ℕ)) : Type 0 where
  pub rest : All (λ is. length bs ≡ length is) zs
  pub some : 0 < length row
  pub split : places_along start bs ys ≡ row ++ places_along start bs zs
  pub count : length row + length zs ≡ length ys
