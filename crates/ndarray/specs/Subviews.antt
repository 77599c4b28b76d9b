-- Subviews by index equations, and at which positions they are. Positions come in row order.
use Rattle.std.specs.Prelude.{ℕ, ◌+◌, ◌-◌, ◌*◌, ◌/◌, ◌≤◌, ◌≡◌, min, nat_lt, if◌then◌else◌, All, List, [], ◌∷◌, length, map, insert, remove, slice_index}
use Rattle.std.specs.Int.{div_ceil}
use Rattle.std.specs.List.{range_with_len}
use Rattle.ndarray.specs.Grid.{Grid, cell, tabulate, array_by}
use Rattle.ndarray.specs.Views.{axis_item, axis_part}

-- the items along an axis, from the first to the last
abbrev pub axis_items : {A : Type 0} → Grid A → ℕ → List (Grid A)
axis_items g axis = map (axis_item g axis) (range_with_len 0 (slice_index g.lengths axis))

-- chunk c of size s along an axis: the last one has what is left
abbrev pub axis_chunk : {A : Type 0} → Grid A → ℕ → ℕ → ℕ → Grid A
axis_chunk g axis s c = axis_part g axis (c * s) (min (c * s + s) (slice_index g.lengths axis))

-- the chunks of size s along an axis, from the first to the last: their number is the length divided by s, rounded up
abbrev pub axis_chunks : {A : Type 0} → Grid A → ℕ → ℕ → List (Grid A)
axis_chunks g axis s = map (axis_chunk g axis s) (range_with_len 0 (div_ceil (slice_index g.lengths axis) s))

-- the lane along an axis at an index list of the other axes: at an index, the cell with the index put in at the axis
abbrev pub lane : {A : Type 0} → Grid A → ℕ → List ℕ → Grid A
lane g axis js = tabulate (slice_index g.lengths axis ∷ []) (λ is. cell g (insert js axis (slice_index is 0)))

-- the lanes along an axis, one for each index list of the other axes; an array of no axes has one lane of length 1
abbrev pub lanes_along : {A : Type 0} → List ℕ → Grid A → ℕ → Grid (Grid A)
lanes_along [] g axis = array_by [] (λ _. tabulate (1 ∷ []) (λ _. cell g []))
lanes_along (n ∷ ns) g axis = array_by (remove (n ∷ ns) axis) (lane g axis)

abbrev pub lanes_of : {A : Type 0} → Grid A → ℕ → Grid (Grid A)
lanes_of g axis = lanes_along g.lengths g axis

-- on each axis the position times the step, plus the index
abbrev pub window_index : List ℕ → List ℕ → List ℕ → List ℕ
window_index [] ps js = []
window_index (s ∷ ss) [] js = []
window_index (s ∷ ss) (p ∷ ps) [] = []
window_index (s ∷ ss) (p ∷ ps) (j ∷ js) = (p * s + j) ∷ window_index ss ps js

-- the window of lengths ws at a position, where positions are steps apart
abbrev pub window : {A : Type 0} → Grid A → List ℕ → List ℕ → List ℕ → Grid A
window g ws steps ps = tabulate ws (λ js. cell g (window_index steps ps js))

-- the number of whole chunks on each axis: the length divided by the chunk's, rounded down
abbrev pub chunk_counts : List ℕ → List ℕ → List ℕ
chunk_counts [] cs = []
chunk_counts (n ∷ ns) [] = []
chunk_counts (n ∷ ns) (c ∷ cs) = n / c ∷ chunk_counts ns cs

-- the whole chunks of lengths cs; the rest of each axis is left out
abbrev pub exact_chunks_of : {A : Type 0} → Grid A → List ℕ → Grid (Grid A)
exact_chunks_of g cs = array_by (chunk_counts g.lengths cs) (window g cs cs)

-- the number of windows of length w on an axis of length n, where they are a step apart
abbrev pub window_count : ℕ → ℕ → ℕ → ℕ
window_count n w step = if nat_lt n w then 0 else (n - w) / step + 1

-- the number of windows on each axis
abbrev pub window_counts : List ℕ → List ℕ → List ℕ → List ℕ
window_counts [] ws steps = []
window_counts (n ∷ ns) [] steps = []
window_counts (n ∷ ns) (w ∷ ws) [] = []
window_counts (n ∷ ns) (w ∷ ws) (s ∷ steps) = window_count n w s ∷ window_counts ns ws steps

-- the windows of lengths ws, steps apart on each axis
abbrev pub windows_of : {A : Type 0} → Grid A → List ℕ → List ℕ → Grid (Grid A)
windows_of g ws steps = array_by (window_counts g.lengths ws steps) (window g ws steps)

-- the windows of length w along one axis, a step apart; on the other axes they have the whole length
abbrev pub axis_windows_of : {A : Type 0} → Grid A → ℕ → ℕ → ℕ → Grid (Grid A)
axis_windows_of g axis w step = array_by (window_count (slice_index g.lengths axis) w step ∷ []) (λ ps. axis_part g axis (slice_index ps 0 * step) (slice_index ps 0 * step + w))

-- as many numbers as the array has axes, each at least 1
pub record ArePositive (ns cs : List ℕ) : Type 0 where
  pub as_many : length cs ≡ length ns
  pub positive : All (λ c. 1 ≤ c) cs
