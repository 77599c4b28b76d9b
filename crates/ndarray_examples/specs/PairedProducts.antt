-- The products of the cells of two arrays at the same index lists.
use Rattle.std.specs.Prelude.{ℕ, ◌*◌, List, Option, Some, None}
use Rattle.ndarray.specs.Grid.{Grid, cell}

-- the number at an index list, and 0 outside the box
abbrev pub number : Option ℕ → ℕ
number None = 0
number (Some x) = x

-- the product of the two cells at an index list
abbrev pub product_at : Grid ℕ → Grid ℕ → List ℕ → ℕ
product_at g h is = number (cell g is) * number (cell h is)
