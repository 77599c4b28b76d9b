-- Inside `stacking`: the cells of several arrays, block by block.
use Rattle.std.specs.Prelude.{◌≡◌, ℕ, zero, suc, ◌+◌, ◌<◌, ◌≤◌, List, [], ◌∷◌, length, take, drop, replicate, flat_map, All, Option, None}
use Rattle.ndarray.specs.Grid.{Grid, IsGrid}
use Rattle.ndarray.specs.Index.{InBox, row_order, size}
use Rattle.ndarray.specs.Joining.{shapes_of}
use Rattle.ndarray.specs.Limits.{IsWithinLimit}
use Rattle.ndarray.specs.declared.base.error.ErrorKind.{ErrorKind}
use Rattle.ndarray.specs.base.Ranks.{rank}

-- the lengths of the axes before one, and 1 on each axis from there on
abbrev pub outer_lengths : ℕ → List ℕ → List ℕ
outer_lengths zero ns = replicate (length ns) 1
outer_lengths (suc axis) [] = []
outer_lengths (suc axis) (n ∷ ns) = n ∷ outer_lengths axis ns

-- those of the first array
abbrev pub outer_of : ℕ → List (List ℕ) → List ℕ
outer_of axis [] = []
outer_of axis (ns ∷ nss) = outer_lengths axis ns

-- the cells of an array from an index list on, as many as the axes from that one on have index lists
abbrev pub block_at : {A : Type 0} → ℕ → List ℕ → Grid A → List A
block_at axis is g = take (size (drop axis g.lengths)) (drop (rank g.lengths is) g.cells)

-- the block of each array in turn
abbrev pub blocks_at : {A : Type 0} → ℕ → List ℕ → List (Grid A) → List A
blocks_at axis is gs = flat_map (block_at axis is) gs

-- and that at each index list of the outer axes
abbrev pub all_blocks : {A : Type 0} → ℕ → List ℕ → List (Grid A) → List A
all_blocks axis outer gs = flat_map (λ is. blocks_at axis is gs) (row_order outer)

-- the array has as many cells from the index list on
pub record HasBlockAt {A : Type 0} (axis : ℕ) (is : List ℕ) (g : Grid A) : Type 0 where
  pub below : axis ≤ length g.lengths
  pub within : 0 < size (drop axis g.lengths) → InBox g.lengths is
  pub fits : 0 < size (drop axis g.lengths) → rank g.lengths is + size (drop axis g.lengths) ≤ size g.lengths

-- the array has a cell at the index list, and that is the block there
pub record IsCellAt {A : Type 0} (axis : ℕ) (is : List ℕ) (g : Grid A) : Type 0 where
  pub whole : IsGrid g
  pub one : size (drop axis g.lengths) ≡ 1
  pub within : InBox g.lengths is

-- an item of the one list, one of the other, and so on
abbrev pub by_turns : {A : Type 0} → List A → List A → List A
by_turns [] ys = []
by_turns (x ∷ xs) [] = []
by_turns (x ∷ xs) (y ∷ ys) = x ∷ y ∷ by_turns xs ys

-- each array has its block at each index list of the outer axes, and together they are as many cells as the lengths ms ask for
pub record MayJoin {A : Type 0} (axis : ℕ) (gs : List (Grid A)) (outer ms : List ℕ) : Type 0 where
  pub limit : IsWithinLimit ms
  pub outer_limit : IsWithinLimit outer
  pub many : length (all_blocks axis outer gs) ≡ size ms
  pub blocks : (is : List ℕ) → InBox outer is → All (HasBlockAt axis is) gs

-- nothing is wrong with the shapes; os are the lengths of their outer axes, and ms those of the result
pub record JoinsAs {A : Type 0} (axis : ℕ) (error : List (List ℕ) → Option ErrorKind) (lengths_of : List (List ℕ) → List ℕ) (gs : List (Grid A)) (os ms : List ℕ) : Type 0 where
  pub none : error (shapes_of gs) ≡ None
  pub lengths : ms ≡ lengths_of (shapes_of gs)
  pub outer : os ≡ outer_of axis (shapes_of gs)
  pub outer_limit : IsWithinLimit os
  pub whole : All IsGrid gs
