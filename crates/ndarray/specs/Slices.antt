-- Slices of an axis: every so-manieth index from a start up to an end, or back from it.
use Rattle.std.specs.Prelude.{◌≢◌, ℕ, ◌+◌, ◌-◌, ◌*◌, ◌/◌, ℤ, pos, negsuc, ◌-ℤ◌, ◌≤ℤ◌, suc, unsigned_abs, slice_index, slice_set, Option, Some, None}
use Rattle.std.specs.Int.{int_max}
use Rattle.ndarray.specs.Grid.{Grid, cell, tabulate}
use Rattle.ndarray.specs.declared.base.slice.Slice.{Slice}

-- on an axis of length n, a negative number counts from n
abbrev pub index_from_start : ℕ → ℤ → ℤ
index_from_start n (pos k) = pos k
index_from_start n (negsuc k) = pos n -ℤ pos (suc k)

-- no end is n
abbrev pub end_from_start : ℕ → Option ℤ → ℤ
end_from_start n None = pos n
end_from_start n (Some e) = index_from_start n e

-- where a slice starts on an axis of length n
abbrev pub slice_start : ℕ → Slice → ℤ
slice_start n s = index_from_start n s.start

-- where it ends: an end below the start is the start
abbrev pub slice_end : ℕ → Slice → ℤ
slice_end n s = int_max (slice_start n s) (end_from_start n s.end)

-- the slice is within an axis of length n, and its step is not 0
pub record IsSliceOf (n : ℕ) (s : Slice) : Type 0 where
  pub low : pos 0 ≤ℤ slice_start n s
  pub high : slice_end n s ≤ℤ pos n
  pub step : s.step ≢ pos 0

-- how many indices it takes: its extent divided by the step without sign, rounded up
abbrev pub slice_length : ℕ → Slice → ℕ
slice_length n s = (unsigned_abs (slice_end n s -ℤ slice_start n s) + unsigned_abs s.step - 1) / unsigned_abs s.step

-- the i-th index from `start` up to `end` by a step: from the start on, or for a negative step back from the one before the end
abbrev pub step_index : ℕ → ℕ → ℤ → ℕ → ℕ
step_index start end (pos k) i = start + i * k
step_index start end (negsuc k) i = end - 1 - i * suc k

-- the index that a slice takes i-th
abbrev pub slice_index_at : ℕ → Slice → ℕ → ℕ
slice_index_at n s i = step_index (unsigned_abs (slice_start n s)) (unsigned_abs (slice_end n s)) s.step i

-- the array of the indices that the slice takes on an axis
abbrev pub axis_slice : {A : Type 0} → Grid A → ℕ → Slice → Grid A
axis_slice g axis s =
    let n = slice_index g.lengths axis in
    tabulate (slice_set g.lengths axis (slice_length n s)) (λ is. cell g (slice_set is axis (slice_index_at n s (slice_index is axis))))
