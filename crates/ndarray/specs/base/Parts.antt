-- Inside `base`: what an array that owns its cells ends as, once the borrow of its elements has ended.
use Rattle.std.specs.Prelude.{ℕ, List, [], ◌∷◌, get_or}
use Rattle.std.specs.Borrow.{Fml, RattleType, MutBor, follows, Array as SliceOf}
use base.Fml.{GName}
use Rattle.ndarray.specs.Grid.{Grid, grid}
use Rattle.ndarray.specs.Writes.{keeps_lengths}
use Rattle.ndarray.specs.declared.base.dimension.Lengths.{Ghosts}
use Rattle.ndarray.specs.contracts.base.array.ArrayBase.{the_row}
use Rattle.ndarray.specs.contracts.base.storage.OwnedRepr.{the_row as owned_row}
use Rattle.ndarray.specs.contracts.base.storage.OwnedReprData.TheImpl.{ghosts, no_dict}

-- the cells that lie at the places, where the elements are ws now
abbrev pub cells_from : {A : Type 0} → List ℕ → List A → List A → List A
cells_from [] xs ws = []
cells_from (p ∷ ps) [] ws = []
cells_from (p ∷ ps) (x ∷ xs) ws = get_or ws p x ∷ cells_from ps xs ws

-- the array keeps its lengths, and has at its places the elements that the borrow ends at
abbrev pub follows_places : (A D : RattleType) → Ghosts D.Denot → MutBor (Grid A.Denot) → GName → List ℕ → Fml
follows_places A D d a γ ps = follows (the_row (owned_row A) D A (ghosts A no_dict) d) (SliceOf A 0) a.ghost_name γ (λ ws. grid a.now.lengths (cells_from ps a.now.cells ws))

-- the array keeps its lengths, and as many cells
abbrev pub keeps_owned : (A D : RattleType) → Ghosts D.Denot → MutBor (Grid A.Denot) → GName → Fml
keeps_owned A D = keeps_lengths (owned_row A) D A (ghosts A no_dict)
