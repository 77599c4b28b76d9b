-- The axes of an array in another order.
use Rattle.std.specs.Prelude.{ℕ, List, length, map, nat_eq, slice_index, IsPermutation}
use Rattle.std.specs.List.{position_or_len, range_with_len}
use Rattle.ndarray.specs.Grid.{Grid, cell, tabulate}

-- the list has each of the first n axes once
abbrev pub NamesEachAxis : ℕ → List ℕ → Type 0
NamesEachAxis n axes = IsPermutation (range_with_len 0 n) axes

-- the index list that has for each axis the index that stands where the list of axes has it
abbrev pub unpermuted_index : List ℕ → List ℕ → List ℕ
unpermuted_index axes is = map (λ axis. slice_index is (position_or_len (nat_eq axis) axes)) (range_with_len 0 (length axes))

-- the array with its axes in the order of a list: at an index list, the cell that has each index on the axis which the list has there
abbrev pub axes_permuted : {A : Type 0} → Grid A → List ℕ → Grid A
axes_permuted g axes = tabulate (map (λ axis. slice_index g.lengths axis) axes) (λ is. cell g (unpermuted_index axes is))
