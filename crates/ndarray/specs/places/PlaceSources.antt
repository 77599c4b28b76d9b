-- What the places of cells are taken from.
use Rattle.std.specs.Prelude.{ℕ, List}
use Rattle.ndarray.specs.declared.places.place_rows.PlaceSource.{PlaceSource}
use Rattle.ndarray.specs.declared.places.place_rows.PlaceSource.TheVariants.{Run, Rows}

-- the places that are still to come
abbrev pub places_to_come : {D : Type 0} → PlaceSource D → List ℕ
places_to_come (Run places) = places
places_to_come (Rows places) = places
