-- Rows of equal length, and rows of marks.
use Rattle.std.specs.Prelude.{◌≡◌, ◌⊎◌, ◌==◌, ℕ, Bool, List, [], ◌∷◌, ◌++◌, length, map, All}
use Rattle.uses.specs.Words.{words_of}
use Rattle.uses.specs.declared.rows.Column.{Column}
use Rattle.uses.specs.declared.rows.Column.TheVariants.{Word, Byte}

-- how many columns a row has
abbrev pub columns_of : Column → List ℕ → ℕ
columns_of Word row = length (words_of row)
columns_of Byte row = length row

-- how many the first row has, and none where there is no row
abbrev pub first_columns : Column → List (List ℕ) → ℕ
first_columns column [] = 0
first_columns column (row ∷ rows) = columns_of column row

-- the lengths are how many rows there are, and how many columns each of them has
pub record HasRows (column : Column) (rows : List (List ℕ)) (ns : List ℕ) : Type 0 where
  pub lengths : ns ≡ length rows ∷ first_columns column rows ∷ []
  pub equal : All (λ row. columns_of column row ≡ first_columns column rows) rows

-- the mark of a cell: `#` of a living one, `.` of a dead one
abbrev pub IsMark : ℕ → Type 0
IsMark byte = (byte ≡ 35) ⊎ (byte ≡ 46)

-- the bytes are the marks of these cells
pub record SpellCells (marks : List ℕ) (cells : List Bool) : Type 0 where
  pub spelled : All IsMark marks
  pub values : cells ≡ map (λ byte. byte == 35) marks

-- the bytes are the marks of cells that were appended
pub record SpellsMore (marks : List ℕ) (old new : List Bool) : Type 0 where
  pub spelled : All IsMark marks
  pub appended : new ≡ old ++ map (λ byte. byte == 35) marks
