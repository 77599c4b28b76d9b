-- Inside `base`: nested strides, by which different index lists reach different places.
use Rattle.std.specs.Prelude.{ℕ, ◌+◌, ◌-◌, ◌*◌, ◌%◌, ◌^◌, ◌<◌, List, [], ◌∷◌, length, slice_index, remove, min, cond, nat_lt, nat_eq}

-- the size of a stride without its sign: the bits of -1, 2 ^ 64 - 1, have the size 1
abbrev pub distance : ℕ → ℕ
distance b = min (b % 2 ^ 64) (2 ^ 64 - b % 2 ^ 64)

-- how far the first and the last place of an axis lie apart, by its length and its stride
abbrev pub reach : ℕ → ℕ → ℕ
reach n b = (n - 1) * distance b

-- the index of a place on an axis of length n and stride b that is turned so that its stride goes up
unfoldable pub forward_index : ℕ → ℕ → ℕ → ℕ
forward_index n b i = cond (nat_eq (distance b) (b % 2 ^ 64)) i (n - 1 - i)

-- how far the axis goes below its first place
unfoldable pub below_first : ℕ → ℕ → ℕ
below_first n b = cond (nat_eq (distance b) (b % 2 ^ 64)) 0 (reach n b)

-- what each axis counts by its length and its stride, added up
unfoldable pub sum_over_axes : (ℕ → ℕ → ℕ) → List ℕ → List ℕ → ℕ
sum_over_axes count [] bs = 0
sum_over_axes count (n ∷ ns) [] = 0
sum_over_axes count (n ∷ ns) (b ∷ bs) = count n b + sum_over_axes count ns bs

-- the reach of an axis whose stride is of size m at most, and 0 of any other
abbrev pub reach_within : ℕ → ℕ → ℕ → ℕ
reach_within m n b = cond (nat_lt m (distance b)) 0 (reach n b)

-- how far all axes together reach whose strides are of size m at most
abbrev pub reached_within : ℕ → List ℕ → List ℕ → ℕ
reached_within m ns bs = sum_over_axes (reach_within m) ns bs

-- the stride of each axis longer than 1 is larger than the reach of all other axes together whose strides are not
-- larger (so no two of these axes have strides of one size). And all axes together reach less than 2 ^ 63 far: places
-- count modulo 2 ^ 64, and none comes round to another
pub record AreNested (ns bs : List ℕ) : Type 0 where
  pub each : (k : ℕ) → k < length ns → 1 < slice_index ns k → reached_within (distance (slice_index bs k)) (remove ns k) (remove bs k) < distance (slice_index bs k)
  pub near : sum_over_axes reach ns bs < 2 ^ 63
