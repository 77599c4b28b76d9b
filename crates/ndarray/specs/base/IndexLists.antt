-- Inside `base`: the index lists of a box, counted from a start.
use Rattle.std.specs.Prelude.{◌≡◌, ℕ, ◌+◌, ◌<◌, ◌^◌, List, [], ◌∷◌, length, slice_index}
use Rattle.ndarray.specs.Limits.{IsWithinLimit}

-- the index list counted from a start, axis by axis
unfoldable pub shifted_index : List ℕ → List ℕ → List ℕ
shifted_index [] is = is
shifted_index (s ∷ ss) [] = []
shifted_index (s ∷ ss) (i ∷ is) = (s + i) ∷ shifted_index ss is

-- from this start, no index of the box leaves the range
pub record StartsAt (start ns : List ℕ) : Type 0 where
  pub as_many : length start ≡ length ns
  pub limit : IsWithinLimit ns
  pub room : (k : ℕ) → k < length ns → slice_index start k + slice_index ns k < 2 ^ 64
