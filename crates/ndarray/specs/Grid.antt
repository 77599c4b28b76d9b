-- What a contract sees of an array: its lengths, and its cells.
use Rattle.std.specs.Prelude.{◌≡◌, ℕ, Bool, true, false, ◌&&◌, nat_eq, if◌then◌else◌, List, [], ◌∷◌, length, map, Option, Some, None, All, filter_map}
use Rattle.ndarray.specs.Index.{InBox, size, row_order}

-- an array: its lengths, and the cells of its box in row order
pub record Grid (A : Type 0) : Type 0 where
  pub lengths : List ℕ
  pub cells : List A

abbrev pub grid : {A : Type 0} → List ℕ → List A → Grid A
grid ns xs = record { lengths = ns; cells = xs }

-- as many cells as the box has index lists
abbrev pub IsGrid : {A : Type 0} → Grid A → Type 0
IsGrid g = length g.cells ≡ size g.lengths

abbrev pub same_index : List ℕ → List ℕ → Bool
same_index [] [] = true
same_index [] (j ∷ js) = false
same_index (i ∷ is) [] = false
same_index (i ∷ is) (j ∷ js) = nat_eq i j && same_index is js

-- of two lists side by side, the value next to the index list
abbrev pub beside : {A : Type 0} → List (List ℕ) → List A → List ℕ → Option A
beside [] xs is = None
beside (js ∷ jss) [] is = None
beside (js ∷ jss) (x ∷ xs) is = if same_index js is then Some x else beside jss xs is

-- the cell at an index list: the value next to it where the box in row order lies next to the cells. `None` outside the box
unfoldable pub cell : {A : Type 0} → Grid A → List ℕ → Option A
cell g is = beside (row_order g.lengths) g.cells is

-- the array is whole, and has a cell at each of the index lists
pub record HasCells {A : Type 0} (g : Grid A) (ys : List (List ℕ)) : Type 0 where
  pub whole : IsGrid g
  pub within : All (InBox g.lengths) ys

-- the cells that f names along a box, in row order
unfoldable pub cells_by : {A : Type 0} → List ℕ → (List ℕ → Option A) → List A
cells_by ns f = filter_map f (row_order ns)

-- the array of lengths ns that has at each index list of its box the cell that f names
abbrev pub tabulate : {A : Type 0} → List ℕ → (List ℕ → Option A) → Grid A
tabulate ns f = grid ns (cells_by ns f)

-- no other array has these lengths and these cells
abbrev pub IsKnownByCells : {A : Type 0} → Grid A → Type 0
IsKnownByCells {A} g = (h : Grid A) → IsGrid h → h.lengths ≡ g.lengths → ((is : List ℕ) → InBox g.lengths is → cell h is ≡ cell g is) → h ≡ g

-- the array of lengths ns that has f of each index list as its cell there
abbrev pub array_by : {B : Type 0} → List ℕ → (List ℕ → B) → Grid B
array_by ns f = grid ns (map f (row_order ns))

-- the array of one axis that has the elements of a list as its cells
abbrev pub one_axis : {B : Type 0} → List B → Grid B
one_axis xs = grid (length xs ∷ []) xs
