-- Views by index equations: which cell of an array is seen at each index list.
use Rattle.std.specs.Prelude.{ℕ, ◌+◌, ◌-◌, List, insert, remove, reverse, slice_index, slice_set, swap}
use Rattle.ndarray.specs.Grid.{Grid, cell, tabulate}
use Rattle.ndarray.specs.Broadcast.{broadcast_index}

-- the array with its axes from the last to the first: at an index list, the cell at the reversed one
abbrev pub transpose_of : {A : Type 0} → Grid A → Grid A
transpose_of g = tabulate (reverse g.lengths) (λ is. cell g (reverse is))

-- the index list with one index counted from the other end of its axis
unfoldable pub mirrored_index : List ℕ → ℕ → List ℕ → List ℕ
mirrored_index ns axis is = slice_set is axis (slice_index ns axis - 1 - slice_index is axis)

-- the array with an axis turned round
abbrev pub axis_inversion : {A : Type 0} → Grid A → ℕ → Grid A
axis_inversion g axis = tabulate g.lengths (λ is. cell g (mirrored_index g.lengths axis is))

-- the array seen at the lengths that it broadcasts to
abbrev pub broadcast_to : {A : Type 0} → Grid A → List ℕ → Grid A
broadcast_to g ms = tabulate ms (λ is. cell g (broadcast_index g.lengths is))

-- the array with two axes exchanged
abbrev pub axes_swapped : {A : Type 0} → Grid A → ℕ → ℕ → Grid A
axes_swapped g i j = tabulate (swap g.lengths i j) (λ is. cell g (swap is i j))

-- item i along an axis: at an index list, the cell with i put in at the axis
abbrev pub axis_item : {A : Type 0} → Grid A → ℕ → ℕ → Grid A
axis_item g axis i = tabulate (remove g.lengths axis) (λ is. cell g (insert is axis i))

-- the array with an axis of length 1 put in: at an index list, the cell with the new index taken out
abbrev pub axis_inserted : {A : Type 0} → Grid A → ℕ → Grid A
axis_inserted g axis = tabulate (insert g.lengths axis 1) (λ is. cell g (remove is axis))

-- the part of an axis from one index up to another
abbrev pub axis_part : {A : Type 0} → Grid A → ℕ → ℕ → ℕ → Grid A
axis_part g axis from to = tabulate (slice_set g.lengths axis (to - from)) (λ is. cell g (slice_set is axis (from + slice_index is axis)))
