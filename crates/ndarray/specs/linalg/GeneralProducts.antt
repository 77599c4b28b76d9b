-- Inside `linalg`: what general products of two arrays require and leave, on each path.
use Rattle.ndarray.specs.Grid.{Grid}
use Rattle.ndarray.specs.Products.{Accumulates, CanAccumulate, HasSumsInRange, ShapesMultiplyInto, column_entries, column_of, matrix_entries, matrix_of, product_of}
use Rattle.ndarray.specs.declared.elements.Valued.{Ghosts as ValuedGhosts}

module _ {A : Type 0} (e : ValuedGhosts A) where
  -- alpha times the product of two matrices may be added to beta times what an array holds
  pub record CanAccumulateProduct (alpha beta : A) (left right old : Grid A) : Type 0 where
    pub shapes : ShapesMultiplyInto left.lengths right.lengths old.lengths
    pub sums : HasSumsInRange e (matrix_of e left) (matrix_of e right)
    pub scaled : CanAccumulate e alpha beta (matrix_entries (product_of e (matrix_of e left) (matrix_of e right))) old

  -- it was added
  abbrev pub AccumulatesProduct : A → A → Grid A → Grid A → Grid A → Grid A → Type 0
  AccumulatesProduct alpha beta left right old new = Accumulates e alpha beta (matrix_entries (product_of e (matrix_of e left) (matrix_of e right))) old new

  -- the same of a matrix and a vector
  pub record CanAccumulateColumn (alpha beta : A) (left x old : Grid A) : Type 0 where
    pub shapes : ShapesMultiplyInto left.lengths x.lengths old.lengths
    pub sums : HasSumsInRange e (matrix_of e left) (column_of e x)
    pub scaled : CanAccumulate e alpha beta (column_entries (product_of e (matrix_of e left) (column_of e x))) old

  abbrev pub AccumulatesColumn : A → A → Grid A → Grid A → Grid A → Grid A → Type 0
  AccumulatesColumn alpha beta left x old new = Accumulates e alpha beta (column_entries (product_of e (matrix_of e left) (column_of e x))) old new
