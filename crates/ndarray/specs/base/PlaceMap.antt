-- Inside `base`: where a place gives its index list.
use Rattle.std.specs.Prelude.{◌≡◌, ◌<◌, length}
use Rattle.ndarray.specs.Index.{size}
use Rattle.ndarray.specs.Limits.{IsWithinLimit}
use Rattle.ndarray.specs.base.Nested.{AreNested}
use Rattle.ndarray.specs.base.CellLayouts.{CellLayout}

-- it has as many strides as lengths, is within the limit, and no two index lists lie at one place, for the strides are
-- nested
pub record LiesApart (s : CellLayout) : Type 0 where
  pub as_many : length s.strides ≡ length s.lengths
  pub limit : IsWithinLimit s.lengths
  pub nested : 0 < size s.lengths → AreNested s.lengths s.strides
