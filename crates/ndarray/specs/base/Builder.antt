-- An array that is filled one cell after another: for `base`, `zip::collecting`, `stacking::blocks` and `linalg`.
use Rattle.std.specs.Prelude.{◌≡◌, ℕ, ◌≤◌, ◌++◌, ◌∷◌, [], List, map}
use Rattle.ndarray.specs.Index.{size}
use Rattle.ndarray.specs.Limits.{IsWithinLimit}
use Rattle.ndarray.specs.declared.base.shape.Order.{Order}

-- the lengths of an array, the order in which its cells come, and those that have come so far
pub record BuilderState (A : Type 0) : Type 0 where
  pub lengths : List ℕ
  pub order : Order
  pub cells : List A

-- the same with one cell more
abbrev pub pushed_to : {A : Type 0} → BuilderState A → A → BuilderState A
pushed_to p x = record { lengths = p.lengths; order = p.order; cells = p.cells ++ x ∷ [] }

-- the same with some cells more
abbrev pub pushed_all : {A : Type 0} → BuilderState A → List A → BuilderState A
pushed_all p xs = record { lengths = p.lengths; order = p.order; cells = p.cells ++ xs }

-- lengths within the limit, and a capacity for all of their cells
pub record HasRoom (ns : List ℕ) (capacity : ℕ) : Type 0 where
  pub limit : IsWithinLimit ns
  pub room : size ns ≤ capacity

-- the same with cells more of which the values are known
pub record PushesValues {A C : Type 0} (value : A → C) (more : List C) (old new : BuilderState A) : Type 0 where
  pub lengths : new.lengths ≡ old.lengths
  pub order : new.order ≡ old.order
  pub values : map value new.cells ≡ map value old.cells ++ more
