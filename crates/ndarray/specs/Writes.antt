-- What an array holds when something was written to one of its cells.
use Rattle.std.specs.Prelude.{ℕ, List, [], ◌∷◌, if◌then◌else◌, Option}
use Rattle.std.specs.Borrow.{Fml, RattleType, MutBor, LendsIf, follows}
use base.Fml.{GName}
use Rattle.ndarray.specs.declared.base.storage.Data.{Ghosts as DataGhosts}
use Rattle.ndarray.specs.declared.base.dimension.Lengths.{Ghosts as LengthsGhosts}
use Rattle.ndarray.specs.Index.{row_order}
use Rattle.ndarray.specs.Grid.{Grid, grid, same_index}
use Rattle.ndarray.specs.contracts.base.array.ArrayBase.{the_row}

-- of two lists side by side, the second with w next to the index list
abbrev pub put_beside : {A : Type 0} → List (List ℕ) → List A → List ℕ → A → List A
put_beside [] xs is w = xs
put_beside (js ∷ jss) [] is w = []
put_beside (js ∷ jss) (x ∷ xs) is w = if same_index js is then w ∷ xs else x ∷ put_beside jss xs is w

-- the array with another cell at an index list of its box
abbrev pub with_cell : {A : Type 0} → Grid A → List ℕ → A → Grid A
with_cell g is w = grid g.lengths (put_beside (row_order g.lengths) g.cells is w)

-- when the reference r ends, the array has what was written last through it as its cell at the index list; where there is no reference, the array stays as it is
abbrev pub lends_cell : (S D E : RattleType) (s : DataGhosts S.Denot E.Denot) (d : LengthsGhosts D.Denot) → MutBor (Grid E.Denot) → List ℕ → Option (MutBor E.Denot) → Fml
lends_cell S D E s d a is r = LendsIf (the_row S D E s d) E a r (with_cell a.now is) a.now

-- as many items as xs has: the first of ys, and those of xs where ys has none
abbrev pub refit : {A : Type 0} → List A → List A → List A
refit [] ys = []
refit (x ∷ xs) [] = x ∷ xs
refit (x ∷ xs) (y ∷ ys) = y ∷ refit xs ys

-- when the borrow ends, the array has the lengths that it had, and as many cells
abbrev pub keeps_lengths : (S D E : RattleType) (s : DataGhosts S.Denot E.Denot) (d : LengthsGhosts D.Denot) → MutBor (Grid E.Denot) → GName → Fml
keeps_lengths S D E s d a γ = follows (the_row S D E s d) (the_row S D E s d) a.ghost_name γ (λ g. grid a.now.lengths (refit a.now.cells g.cells))

-- the items still to come of an iterator that writes, and the name of its borrow of the array
pub record BorrowedItems (A : Type 0) : Type 0 where
  pub items : List A
  pub borrow_name : GName
