-- The game of life, on a grid that ends at its border.
use Rattle.std.specs.Prelude.{ℕ, zero, suc, ◌+◌, ◌-◌, ◌==◌, ◌&&◌, ◌||◌, Bool, true, false, List, [], ◌∷◌, Option, Some, None, slice_index}
use Rattle.ndarray.specs.Grid.{Grid, array_by, cell}

-- 1 for a living cell, and 0 for a dead one and outside the grid
abbrev pub living : Option Bool → ℕ
living (Some true) = 1
living (Some false) = 0
living None = 0

-- what a function gives at the number before, and 0 where there is none
abbrev pub before : (ℕ → ℕ) → ℕ → ℕ
before f zero = 0
before f (suc n) = f n

-- the living cells of a row at a column and next to it
abbrev pub living_in_row : Grid Bool → ℕ → ℕ → ℕ
living_in_row grid i j = before (λ k. living (cell grid (i ∷ k ∷ []))) j + living (cell grid (i ∷ j ∷ [])) + living (cell grid (i ∷ (j + 1) ∷ []))

-- the living cells of the three by three cells round a cell, without the cell itself
abbrev pub living_neighbours : Grid Bool → ℕ → ℕ → ℕ
living_neighbours grid i j = before (λ k. living_in_row grid k j) i + living_in_row grid i j + living_in_row grid (i + 1) j - living (cell grid (i ∷ j ∷ []))

-- a cell lives on with two or three living neighbours, and comes to life with three
abbrev pub next_state_of : ℕ → ℕ → Bool
next_state_of own neighbours = neighbours == 3 || neighbours == 2 && own == 1

-- the next state of the cell at an index list
abbrev pub next_state_at : Grid Bool → List ℕ → Bool
next_state_at grid is = next_state_of (living (cell grid is)) (living_neighbours grid (slice_index is 0) (slice_index is 1))

-- the grid of the next states of all cells
abbrev pub next_generation : Grid Bool → Grid Bool
next_generation grid = array_by grid.lengths (next_state_at grid)

-- the grid after n steps
abbrev pub generation : ℕ → Grid Bool → Grid Bool
generation zero grid = grid
generation (suc n) grid = next_generation (generation n grid)
