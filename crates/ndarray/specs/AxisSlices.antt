-- A slice on each axis of an array.
use Rattle.std.specs.Prelude.{ℕ, ◌+◌, List, [], ◌∷◌, ⊤}
use Rattle.ndarray.specs.Grid.{Grid}
use Rattle.ndarray.specs.Slices.{IsSliceOf, axis_slice}
use Rattle.ndarray.specs.declared.base.slice.Slice.{Slice}

-- there is a slice for each length, within it
abbrev pub AreSlicesOf : List ℕ → List Slice → Type 0
AreSlicesOf [] [] = ⊤
AreSlicesOf [] (s ∷ ss) = ⊥
AreSlicesOf (n ∷ ns) [] = ⊥
AreSlicesOf (n ∷ ns) (s ∷ ss) = IsSliceOf n s × AreSlicesOf ns ss

-- the array of the indices that slices take on axes, the first of them on the axis k, the next on the one behind it, and so on
abbrev pub axes_sliced : {A : Type 0} → ℕ → Grid A → List Slice → Grid A
axes_sliced k g [] = g
axes_sliced k g (s ∷ ss) = axes_sliced (k + 1) (axis_slice g k s) ss
