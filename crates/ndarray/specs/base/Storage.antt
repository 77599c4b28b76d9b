-- The elements of a storage, by places: for `base`, `subviews` and `iter`.
use Rattle.std.specs.Prelude.{ℕ, Option, slice_get, ⊤}
use Rattle.ndarray.specs.declared.base.storage.OwnedRepr.{OwnedRepr}
use Rattle.ndarray.specs.declared.base.storage.ViewRepr.{ViewRepr}
use Rattle.ndarray.specs.declared.base.storage.ViewRepr.TheVariants.{Slice, Part}
use Rattle.ndarray.specs.declared.base.storage.CowRepr.{CowRepr}
use Rattle.ndarray.specs.declared.base.storage.CowRepr.TheVariants.{View, Owned}
use Rattle.ndarray.specs.base.Slots.{held_at}

-- the element of a reading view's storage at a place
abbrev pub seen_at : {A : Type 0} → ViewRepr A → ℕ → Option A
seen_at (Slice slice) p = slice_get slice.now p
seen_at (Part reading) p = held_at reading.now.slots p

-- the element at a place of an owned array's storage
abbrev pub owned_at : {A : Type 0} → OwnedRepr A → ℕ → Option A
owned_at owned p = slice_get owned.items.items p

-- the element at a place of a storage that borrows or owns
abbrev pub cow_at : {A : Type 0} → CowRepr A → ℕ → Option A
cow_at (View view) p = seen_at view p
cow_at (Owned owned) p = owned_at owned p

-- the storage owns its elements
abbrev pub cow_owns : {A : Type 0} → CowRepr A → Type 0
cow_owns (View view) = ⊥
cow_owns (Owned owned) = ⊤
