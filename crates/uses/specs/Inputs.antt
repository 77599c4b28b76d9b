-- What the commands read from their input.
use Rattle.std.specs.Prelude.{◌≡◌, ◌≤◌, ◌+◌, ℕ, ℤ, Bool, List, [], ◌∷◌, pos, unsigned_abs}
use Rattle.std.specs.Int.{int_rem_euclid}
use Rattle.std.specs.List.{concat}
use Rattle.ndarray.specs.Grid.{Grid, IsGrid}
use Rattle.ndarray.specs.Limits.{IsWithinLimit}
use Rattle.residue.specs.Residue.{Below, modulus, modulus_pos, residue_of}
use Rattle.uses.specs.Pixels.{ReadsPixels}
use Rattle.uses.specs.Rows.{HasRows, SpellCells}
use Rattle.uses.specs.Spelling.{SpellNumbers}
use Rattle.uses.specs.Words.{rows_of, words_of}
use Rattle.uses.specs.declared.rows.Column.TheVariants.{Word, Byte}

-- the array has these lengths, within the limit, and these cells, as many as index lists
pub record IsArrayOf {A : Type 0} (ns : List ℕ) (xs : List A) (g : Grid A) : Type 0 where
  pub lengths : g.lengths ≡ ns
  pub cells : g.cells ≡ xs
  pub whole : IsGrid g
  pub limit : IsWithinLimit ns

-- the text is a picture in plain PGM
pub record ReadsPicture (text : List ℕ) (picture : Grid ℤ) : Type 0 where
  pub lengths : List ℕ
  pub pixels : List ℤ
  pub words : ReadsPixels (words_of text) (lengths, pixels)
  pub array : IsArrayOf lengths pixels picture

-- the words of the text are the cells of a table, and each of its lines is a row
pub record ReadsTable (text : List ℕ) (table : Grid ℤ) : Type 0 where
  pub lengths : List ℕ
  pub numbers : List ℤ
  pub words : SpellNumbers (words_of text) numbers
  pub rows : HasRows Word (rows_of text) lengths
  pub array : IsArrayOf lengths numbers table

-- the lines of the text are the rows of a grid, and their bytes the marks of its cells
pub record ReadsGrid (text : List ℕ) (grid : Grid Bool) : Type 0 where
  pub lengths : List ℕ
  pub cells : List Bool
  pub marks : SpellCells (concat (rows_of text)) cells
  pub rows : HasRows Byte (rows_of text) lengths
  pub array : IsArrayOf lengths cells grid

-- half of the numbers: as many as coefficients and as first terms, one at least, and not so many that a square matrix is beyond the limit
pub record IsOrder (count order : ℕ) : Type 0 where
  pub twice : count ≡ order + order
  pub some : 1 ≤ order
  pub limit : IsWithinLimit (order ∷ order ∷ [])

-- the residue of a whole number
abbrev pub residue : ℤ → Below (modulus 1000000007)
residue z = residue_of (modulus 1000000007) (modulus_pos 1000000007) (unsigned_abs (int_rem_euclid z (pos 1000000007)))
