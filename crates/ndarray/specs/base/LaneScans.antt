-- Lanes of an array that are scanned in place, one after another or side by side: for `subviews`.
use Rattle.std.specs.Prelude.{◌≡◌, ◌≢◌, ℕ, List, Option, Some, All, AllPairs, Contains, length, map, remove, slice_get}
use Rattle.ndarray.specs.Grid.{Grid, IsGrid, cell}
use Rattle.ndarray.specs.Index.{InBox}
use Rattle.ndarray.specs.Scans.{MayScan, ScansTo}
use Rattle.ndarray.specs.Subviews.{lane}

-- on which lanes along an axis index lists are: their indices on the other axes
abbrev pub lanes_at : ℕ → List (List ℕ) → List (List ℕ)
lanes_at axis iss = map (λ is. remove is axis) iss

-- index lists of the box, each on a lane of its own
pub record AreOnLanes (ns : List ℕ) (axis : ℕ) (iss : List (List ℕ)) : Type 0 where
  pub within : All (InBox ns) iss
  pub apart : AllPairs (λ is js. remove is axis ≢ remove js axis) iss

-- Below, `gives b x (c, y)` says that a call at the value b and the old cell x may return the next value c and the new cell y.
module _ {A B : Type 0} (gives : B → A → B × A → Type 0) where
  -- each of the lanes is a scan from init of its old cells, and all other cells are as before
  pub record ScansEach (axis : ℕ) (init : B) (jss : List (List ℕ)) (old new : Grid A) : Type 0 where
    pub lengths : new.lengths ≡ old.lengths
    pub whole : IsGrid new
    pub scanned : All (λ js. ScansTo gives init (lane old axis js).cells (lane new axis js).cells) jss
    pub kept : (is : List ℕ) → (Contains jss (remove is axis) → ⊥) → cell new is ≡ cell old is

  -- the calls of a scan from init may be made along each of the lanes
  pub record MayScanEach (can : B → A → Type 0) (axis : ℕ) (init : B) (jss : List (List ℕ)) (g : Grid A) : Type 0 where
    pub each : All (λ js. MayScan gives can init (lane g axis js).cells) jss

  -- one step at each of some places, with a value for each: places are index lists or numbers, and `old` and `new` say what is there
  pub record StepsEach {P : Type 0} (ps : List P) (before : List B) (old : P → Option A) (after : List B) (new : P → Option A) : Type 0 where
    pub values : length after ≡ length before
    pub steps : (t : ℕ) (p : P) (b : B) → slice_get ps t ≡ Some p → slice_get before t ≡ Some b → (x : A) × (y : A) × (c : B) × (old p ≡ Some x) × (new p ≡ Some y) × (slice_get after t ≡ Some c) × gives b x (c, y)
    pub kept : (p : P) → (Contains ps p → ⊥) → new p ≡ old p

-- the calls of such steps may be made
pub record MayStepEach {A B P : Type 0} (can : B → A → Type 0) (ps : List P) (values : List B) (at : P → Option A) : Type 0 where
  pub each : (t : ℕ) (p : P) (b : B) (x : A) → slice_get ps t ≡ Some p → slice_get values t ≡ Some b → at p ≡ Some x → can b x
