-- What an array holds when something was written to a cell in brackets.
use Rattle.std.specs.Prelude.{ℕ, List}
use Rattle.std.specs.Borrow.{Fml, RattleType, MutBor, Lends}
use Rattle.ndarray.specs.declared.base.storage.Data.{Ghosts as DataGhosts}
use Rattle.ndarray.specs.declared.base.dimension.Lengths.{Ghosts as LengthsGhosts}
use Rattle.ndarray.specs.Grid.{Grid}
use Rattle.ndarray.specs.Writes.{with_cell}
use Rattle.ndarray.specs.contracts.base.array.ArrayBase.{the_row}

-- when the reference r ends, the array has what was written last through it as its cell at the index list
abbrev pub lends_own_cell : (S D E : RattleType) (s : DataGhosts S.Denot E.Denot) (d : LengthsGhosts D.Denot) → MutBor (Grid E.Denot) → List ℕ → MutBor E.Denot → Fml
lends_own_cell S D E s d a is r = Lends (the_row S D E s d) E a r (with_cell a.now is)
