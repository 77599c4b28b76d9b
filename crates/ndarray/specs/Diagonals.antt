-- The diagonal of an array.
use Rattle.std.specs.Prelude.{ℕ, List, [], ◌∷◌, length, min, replicate, slice_index}
use Rattle.std.specs.List.{fold}
use Rattle.ndarray.specs.Grid.{Grid, cell, tabulate}

-- the least of the lengths; 1 where there are none
abbrev pub shortest : List ℕ → ℕ
shortest [] = 1
shortest (n ∷ ns) = fold min n ns

-- the diagonal: at an index, the cell that has this index on each axis
abbrev pub diagonal_of : {A : Type 0} → Grid A → Grid A
diagonal_of g = tabulate (shortest g.lengths ∷ []) (λ is. cell g (replicate (length g.lengths) (slice_index is 0)))
