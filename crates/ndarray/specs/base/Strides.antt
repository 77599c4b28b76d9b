-- Inside `base`: the strides that `layout` computes.
use Rattle.std.specs.Prelude.{◌≡◌, ℕ, ◌+◌, ◌-◌, ◌<◌, ◌≤◌, ◌⊎◌, List, length, slice_index}
use Rattle.ndarray.specs.base.Ranks.{axis_in, block_in}
use Rattle.ndarray.specs.declared.base.shape.Order.{Order}

-- cells side by side: the stride of an axis is the size of the box of the axes that vary faster
pub record AreStridesOf (order : Order) (ns bs : List ℕ) : Type 0 where
  pub as_many : length bs ≡ length ns
  pub each : (p : ℕ) → p < length ns → slice_index bs (axis_in order (length ns) p) ≡ block_in order ns p

-- the strides cs, by which an array of lengths ns and strides bs is seen at lengths ms
pub record StretchedBy (ns ms bs cs : List ℕ) : Type 0 where
  pub fewer : length ns ≤ length ms
  pub as_many : length cs ≡ length ms
  pub missing : (k : ℕ) → k < length ms - length ns → slice_index cs k ≡ 0
  pub each : (k : ℕ) → k < length ns → ((slice_index ns k ≡ 1) × (slice_index cs (length ms - length ns + k) ≡ 0)) ⊎ ((slice_index ns k ≡ slice_index ms (length ms - length ns + k)) × (slice_index cs (length ms - length ns + k) ≡ slice_index bs k))
