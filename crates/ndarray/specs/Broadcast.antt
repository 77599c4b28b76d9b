-- Broadcasting one list of lengths to another, or two together, aligned at the last axes.
use Rattle.std.specs.Prelude.{◌≡◌, ℕ, ◌+◌, ◌-◌, ◌<◌, ◌≤◌, ◌⊎◌, ◌==◌, if◌then◌else◌, List, [], ◌∷◌, ◌++◌, length, drop, map, max, replicate, slice_index, zip}
use Rattle.ndarray.specs.Limits.{IsWithinLimit}

-- no more axes, and each length is the one that it meets, or 1
pub record BroadcastsTo (ns ms : List ℕ) : Type 0 where
  pub fewer : length ns ≤ length ms
  pub agree : (k : ℕ) → k < length ns → (slice_index ns k ≡ 1) ⊎ (slice_index ns k ≡ slice_index ms (length ms - length ns + k))

-- index 0 on each axis of length 1
abbrev pub zero_on_unit_axes : List ℕ → List ℕ → List ℕ
zero_on_unit_axes [] js = []
zero_on_unit_axes (n ∷ ns) [] = []
zero_on_unit_axes (n ∷ ns) (j ∷ js) = (if n == 1 then 0 else j) ∷ zero_on_unit_axes ns js

-- the index list of an array of lengths ns that is seen at js: the indices of missing axes are dropped, and an axis of length 1 is at 0
unfoldable pub broadcast_index : List ℕ → List ℕ → List ℕ
broadcast_index ns js = zero_on_unit_axes ns (drop (length js - length ns) js)

-- the lengths with as many axes of length 1 before them as make r axes
abbrev pub with_ones_before : ℕ → List ℕ → List ℕ
with_ones_before r ns = replicate (r - length ns) 1 ++ ns

-- of two lengths that meet, the one that is not 1
abbrev pub meeting_length : ℕ × ℕ → ℕ
meeting_length p = if p.0 == 1 then p.1 else p.0

-- the lengths of two shapes broadcast together: an axis that one of them has not counts as 1, and where one length is 1, the other one is the result's
unfoldable pub broadcast_lengths : List ℕ → List ℕ → List ℕ
broadcast_lengths ns ms =
    let r = max (length ns) (length ms) in
    map meeting_length (zip (with_ones_before r ns) (with_ones_before r ms))

-- two shapes broadcast together: each broadcasts to these lengths, which are within the limit
pub record BroadcastTogether (ns ms : List ℕ) : Type 0 where
  pub left : BroadcastsTo ns (broadcast_lengths ns ms)
  pub right : BroadcastsTo ms (broadcast_lengths ns ms)
  pub limit : IsWithinLimit (broadcast_lengths ns ms)
