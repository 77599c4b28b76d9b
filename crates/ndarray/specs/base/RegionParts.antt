-- A view to write in before it is one, in words that name none of its fields: for `base` and what borrows cells one after another.
use Rattle.std.specs.Prelude.{ℕ, List, ⊤}
use base.Fml.{GName}
use Rattle.ndarray.specs.Grid.{Grid}
use Rattle.ndarray.specs.base.Places.{grid_at, Reaches}
use Rattle.ndarray.specs.base.Slots.{held_at}
use Rattle.ndarray.specs.declared.base.view_mut.RegionParts.{RegionParts}

module _ {A D : Type 0} where
  -- the name of the borrow of the array
  abbrev pub borrow_name_of : RegionParts A D → GName
  borrow_name_of parts = parts.region.reborrow_name

  -- each index list of the box reaches an element that they may write, and no two reach the same
  abbrev pub HasElements : (D → List ℕ) → RegionParts A D → Type 0
  HasElements numbers parts = Reaches ⊤ (held_at parts.region.slots) (numbers parts.layout.dim) parts.layout.start (numbers parts.layout.strides)

  -- the array of these elements
  abbrev pub array_in : (D → List ℕ) → RegionParts A D → Grid A
  array_in numbers parts = grid_at (held_at parts.region.slots) (numbers parts.layout.dim) parts.layout.start (numbers parts.layout.strides)
