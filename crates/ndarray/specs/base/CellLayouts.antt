-- Where an array lies among the elements of its storage: for `base`, `subviews` and `places`.
use Rattle.std.specs.Prelude.{ℕ, List}
use Rattle.ndarray.specs.base.Places.{place}

-- where an array lies: its lengths, the place of its first index list, and its strides
pub record CellLayout : Type 0 where
  pub lengths : List ℕ
  pub start : ℕ
  pub strides : List ℕ

abbrev pub cell_layout : List ℕ → ℕ → List ℕ → CellLayout
cell_layout ns start bs = record { lengths = ns; start = start; strides = bs }

-- the place of the cell at an index list
abbrev pub place_in : CellLayout → List ℕ → ℕ
place_in s is = place s.start s.strides is
