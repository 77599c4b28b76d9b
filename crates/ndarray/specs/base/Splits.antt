-- An array cut along an axis.
use Rattle.std.specs.Prelude.{◌≡◌, ℕ, slice_index}
use Rattle.ndarray.specs.Grid.{Grid, IsGrid}
use Rattle.ndarray.specs.Views.{axis_part}

-- the places of an axis below an index, and the others
pub record IsSplit {A : Type 0} (g : Grid A) (axis index : ℕ) (low high : Grid A) : Type 0 where
  pub first : low ≡ axis_part g axis 0 index
  pub second : high ≡ axis_part g axis index (slice_index g.lengths axis)
  pub first_whole : IsGrid low
  pub second_whole : IsGrid high

-- some places of an axis, from one up to another
pub record IsPartAlong {A : Type 0} (g : Grid A) (axis from to : ℕ) (part : Grid A) : Type 0 where
  pub value : part ≡ axis_part g axis from to
  pub whole : IsGrid part
