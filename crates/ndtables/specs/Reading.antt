-- What is read off words, and what is computed of it.
use Rattle.std.specs.Prelude.{◌≡◌, ℕ, ℤ, List, [], ◌∷◌, ◌++◌, map, All}
use Rattle.std.specs.Str.Parse.{digits_value, signed_digits_value}
use Rattle.ndarray.specs.Algebra.{CommutativeMonoid}
use Rattle.ndarray.specs.Grid.{Grid, IsGrid, grid}
use Rattle.ndarray.specs.Sums.{total}
use Rattle.ndarray.specs.declared.base.shape.Order.{Order}
use Rattle.ndtables.specs.Adding.{AreSums}
use Rattle.ndtables.specs.Convolving.{IsFullConvolution, IsValidConvolution}
use Rattle.ndtables.specs.Multiplying.{IsProduct}
use Rattle.ndtables.specs.Reducing.{AreDifferences, AreRunningProducts, AreTotalsAlong}
use Rattle.ndtables.specs.Spelling.{IsCellWord, IsCountWord, SpellsShape}

-- of the words `old` the first were read as these cells, a word each, and `new` are left
pub record ReadsNumbers (old new : List (List ℕ)) (numbers : List ℤ) : Type 0 where
  pub read : List (List ℕ)
  pub words : old ≡ read ++ new
  pub spelled : All IsCellWord read
  pub values : numbers ≡ map (signed_digits_value 10) read

-- of the words `old` the first was read as this number, by its digits, and `new` are left
pub record ReadsCount (old new : List (List ℕ)) (count : ℕ) : Type 0 where
  pub word : List ℕ
  pub words : old ≡ word ∷ new
  pub spelled : IsCountWord word
  pub value : count ≡ digits_value 10 word

-- of the words `old` a shape word and then its cells in row order were read, as many as the shape has, and `new` are left
pub record ReadsTable (old new : List (List ℕ)) (table : Grid ℤ) : Type 0 where
  pub word : List ℕ
  pub order : Order
  pub rest : List (List ℕ)
  pub words : old ≡ word ∷ rest
  pub shape : SpellsShape word table.lengths order
  pub cells : ReadsNumbers rest new table.cells
  pub whole : IsGrid table

-- all of the words were read as two tables, one after the other
pub record ReadsTables (words : List (List ℕ)) (left right : Grid ℤ) : Type 0 where
  pub rest : List (List ℕ)
  pub read_left : ReadsTable words rest left
  pub read_right : ReadsTable rest [] right

-- all of the words were read as an axis and a table
pub record ReadsAxisAndTable (words : List (List ℕ)) (axis : ℕ) (table : Grid ℤ) : Type 0 where
  pub rest : List (List ℕ)
  pub read_axis : ReadsCount words rest axis
  pub read_table : ReadsTable rest [] table

-- all of the words were read as a table, its cells are in range, and the result, of no axes, is their total
pub record ComputesTotal (M : CommutativeMonoid ℤ) (in_range : List ℤ → Type 0) (words : List (List ℕ)) (result : Grid ℤ) : Type 0 where
  pub table : Grid ℤ
  pub read : ReadsTable words [] table
  pub fits : in_range table.cells
  pub total : result ≡ grid [] (total M table.cells ∷ [])

-- all of the words were read as two tables, one after the other, and the result is the array of their sums
pub record ComputesAdd (words : List (List ℕ)) (sums : Grid ℤ) : Type 0 where
  pub left : Grid ℤ
  pub right : Grid ℤ
  pub read : ReadsTables words left right
  pub added : AreSums left right sums

-- all of the words were read as two tables, and the result is the valid convolution of the first with the second
pub record ComputesConv (words : List (List ℕ)) (sums : Grid ℤ) : Type 0 where
  pub table : Grid ℤ
  pub kernel : Grid ℤ
  pub read : ReadsTables words table kernel
  pub convolved : IsValidConvolution table kernel sums

-- all of the words were read as two tables, and the result is their full convolution
pub record ComputesConvFull (words : List (List ℕ)) (sums : Grid ℤ) : Type 0 where
  pub left : Grid ℤ
  pub right : Grid ℤ
  pub read : ReadsTables words left right
  pub convolved : IsFullConvolution left right sums

-- all of the words were read as two tables, one after the other, and the result is their product
pub record ComputesDot (words : List (List ℕ)) (product : Grid ℤ) : Type 0 where
  pub left : Grid ℤ
  pub right : Grid ℤ
  pub read : ReadsTables words left right
  pub multiplied : IsProduct left right product

-- all of the words were read as an axis and a table, and the result is the array of the totals of the table's lanes along the axis
pub record ComputesTotals (M : CommutativeMonoid ℤ) (in_range : List ℤ → Type 0) (words : List (List ℕ)) (totals : Grid ℤ) : Type 0 where
  pub axis : ℕ
  pub table : Grid ℤ
  pub read : ReadsAxisAndTable words axis table
  pub added : AreTotalsAlong M in_range table axis totals

-- all of the words were read as an order, an axis and a table, and the result is the table's difference of that order along the axis
pub record ComputesDiff (words : List (List ℕ)) (differences : Grid ℤ) : Type 0 where
  pub order : ℕ
  pub axis : ℕ
  pub table : Grid ℤ
  pub rest : List (List ℕ)
  pub read_order : ReadsCount words rest order
  pub read : ReadsAxisAndTable rest axis table
  pub subtracted : AreDifferences table order axis differences

-- all of the words were read as an axis and a table, and the result is the array of the table's running products along the axis
pub record ComputesCumprod (words : List (List ℕ)) (products : Grid ℤ) : Type 0 where
  pub axis : ℕ
  pub table : Grid ℤ
  pub read : ReadsAxisAndTable words axis table
  pub multiplied : AreRunningProducts table axis products
