-- Laws of joined arrays: their totals, and their parts.
use Rattle.std.specs.Prelude.{◌≡◌, ℕ, ◌<◌, ◌≤◌, All, List, [], ◌∷◌, length, map, slice_get, slice_index, Some, None}
use Rattle.ndarray.specs.Algebra.{CommutativeMonoid}
use Rattle.ndarray.specs.Grid.{Grid, IsGrid}
use Rattle.ndarray.specs.Joining.{concatenate_error, concatenation, shapes_of, stack_error, stack_of}
use Rattle.ndarray.specs.Limits.{IsWithinLimit}
use Rattle.ndarray.specs.Sums.{total, total_by}
use Rattle.ndarray.specs.Views.{axis_item, axis_part}

-- where joining arrays along an axis is no error, the total of the joined array is the total of their totals
abbrev pub TotalsJoin : {A C : Type 0} → CommutativeMonoid C → (A → C) → Type 0
TotalsJoin {A} M value = (axis : ℕ) (gs : List (Grid A)) → All IsGrid gs → concatenate_error axis (shapes_of gs) ≡ None
    → total_by M value (concatenation axis gs).cells ≡ total M (map (λ g. total_by M value g.cells) gs)

-- the part of an array below an index of an axis, and the part from there on
abbrev pub two_parts : {A : Type 0} → Grid A → ℕ → ℕ → List (Grid A)
two_parts g axis index = axis_part g axis 0 index ∷ axis_part g axis index (slice_index g.lengths axis) ∷ []

-- joined along the axis they are the array
abbrev pub PartsJoin : Type 0 → Type 0
PartsJoin A = (g : Grid A) (axis index : ℕ) → IsGrid g → axis < length g.lengths → index ≤ slice_index g.lengths axis → concatenation axis (two_parts g axis index) ≡ g

-- and joining them is no error where the array is within the limit
abbrev pub PartsCanBeJoined : Type 0 → Type 0
PartsCanBeJoined A = (g : Grid A) (axis index : ℕ) → IsWithinLimit g.lengths → axis < length g.lengths → index ≤ slice_index g.lengths axis
    → concatenate_error axis (shapes_of (two_parts g axis index)) ≡ None

-- where stacking arrays along a new axis is no error, item k of the stack along it is the k-th array
abbrev pub ItemsOfStackAreParts : Type 0 → Type 0
ItemsOfStackAreParts A = (axis k : ℕ) (gs : List (Grid A)) (g : Grid A) → All IsGrid gs → stack_error axis (shapes_of gs) ≡ None → slice_get gs k ≡ Some g → axis_item (stack_of axis gs) axis k ≡ g
