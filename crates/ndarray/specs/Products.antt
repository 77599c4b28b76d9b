-- Products of arrays, in the values of their cells.
use Rattle.std.specs.Prelude.{◌≡◌, ◌≢◌, ℕ, ℤ, ◌+◌, ◌-◌, ◌*◌, ◌<◌, ◌≤◌, List, [], ◌∷◌, ◌++◌, drop, length, remove, slice_index, take, Option, Some, None, Result, IfOk, IsOk, unsigned_abs}
use Rattle.ndarray.specs.Algebra.{CommutativeMonoid}
use Rattle.ndarray.specs.Grid.{Grid, IsGrid, cell}
use Rattle.ndarray.specs.Index.{InBox, size}
use Rattle.ndarray.specs.Limits.{IsWithinLimit}
use Rattle.ndarray.specs.Matrices.{Matrix, inner_products, matrix_product}
use Rattle.ndarray.specs.Subviews.{lane}
use Rattle.ndarray.specs.Sums.{IsSummable, total}
use Rattle.ndarray.specs.declared.elements.Valued.{Ghosts as ValuedGhosts}

-- the products of the values of two lists, place by place
abbrev pub products_of : {A C : Type 0} → CommutativeMonoid C → (A → C) → List A → List A → List C
products_of times value [] ys = []
products_of times value (x ∷ xs) [] = []
products_of times value (x ∷ xs) (y ∷ ys) = times.op (value x) (value y) ∷ products_of times value xs ys

-- the absolute values of the numbers of a list, added up
abbrev pub magnitude_sum : List ℤ → ℕ
magnitude_sum [] = 0
magnitude_sum (z ∷ zs) = unsigned_abs z + magnitude_sum zs

-- ---- shapes

-- the lengths of a product: those of the left but its last, then those of the right but its last but one, or its only one
abbrev pub product_lengths : List ℕ → List ℕ → List ℕ
product_lengths ns ms = remove ns (length ns - 1) ++ remove ms (length ms - 2)

-- an axis on each side, equal lengths of the left's last and the right's last but one, or its only one, and a product of at most 32 axes within the limit
pub record ShapesMultiply (ns ms : List ℕ) : Type 0 where
  pub left : 1 ≤ length ns
  pub right : 1 ≤ length ms
  pub inner : slice_index ns (length ns - 1) ≡ slice_index ms (length ms - 2)
  pub axes : length (product_lengths ns ms) ≤ 32
  pub limit : IsWithinLimit (product_lengths ns ms)

-- the inner lengths are equal, and these are the lengths of the product
pub record ShapesMultiplyInto (ns ms ks : List ℕ) : Type 0 where
  pub inner : slice_index ns (length ns - 1) ≡ slice_index ms 0
  pub product : ks ≡ product_lengths ns ms

-- the lengths of the Kronecker product of two matrices
abbrev pub kronecker_lengths : List ℕ → List ℕ → List ℕ
kronecker_lengths ns ms = slice_index ns 0 * slice_index ms 0 ∷ slice_index ns 1 * slice_index ms 1 ∷ []

-- ---- arrays as matrices

-- the value of a cell, and d where there is none
abbrev pub value_or : {A C : Type 0} → (A → C) → C → Option A → C
value_or value d None = d
value_or value d (Some x) = value x

-- a matrix by index lists of two numbers; its first column and its first row by index lists of one
abbrev pub matrix_entries : {C : Type 0} → Matrix C → List ℕ → C
matrix_entries m is = m.cell (slice_index is 0) (slice_index is 1)

abbrev pub column_entries : {C : Type 0} → Matrix C → List ℕ → C
column_entries m is = m.cell (slice_index is 0) 0

abbrev pub row_entries : {C : Type 0} → Matrix C → List ℕ → C
row_entries m is = m.cell 0 (slice_index is 0)

module _ {A : Type 0} (e : ValuedGhosts A) where
  -- the value of an array's cell at an index list, and zero outside the box
  abbrev pub value_at : Grid A → List ℕ → e.Carrier
  value_at g is = value_or e.meaning e.addition.unit (cell g is)

  -- an array of two axes as the matrix of its values
  abbrev pub matrix_of : Grid A → Matrix e.Carrier
  matrix_of g = record { rows = slice_index g.lengths 0; columns = slice_index g.lengths 1; cell = λ i j. value_at g (i ∷ j ∷ []) }

  -- a vector as one row
  abbrev pub row_of : Grid A → Matrix e.Carrier
  row_of g = record { rows = 1; columns = slice_index g.lengths 0; cell = λ i j. value_at g (j ∷ []) }

  -- a vector as one column
  abbrev pub column_of : Grid A → Matrix e.Carrier
  column_of g = record { rows = slice_index g.lengths 0; columns = 1; cell = λ i j. value_at g (i ∷ []) }

  -- the product by the addition and the multiplication of the values
  abbrev pub product_of : Matrix e.Carrier → Matrix e.Carrier → Matrix e.Carrier
  product_of a b = matrix_product e.addition e.multiplication a b

  -- of the products of each inner sum, every selection has its sum in range
  abbrev pub HasSumsInRange : Matrix e.Carrier → Matrix e.Carrier → Type 0
  HasSumsInRange a b = (i j : ℕ) → i < a.rows → j < b.columns → IsSummable e.addition e.InRange (inner_products e.multiplication a b i j)

  -- the inner lengths are equal, and that may be summed at row i and column j
  pub record CanSumInner (a b : Matrix e.Carrier) (i j : ℕ) : Type 0 where
    pub inner : a.columns ≡ b.rows
    pub row : i < a.rows
    pub column : j < b.columns
    pub sums : IsSummable e.addition e.InRange (inner_products e.multiplication a b i j)

  -- the array has these lengths, and at each index list a cell of this value
  pub record HasValues (ns : List ℕ) (value : List ℕ → e.Carrier) (r : Grid A) : Type 0 where
    pub lengths : r.lengths ≡ ns
    pub whole : IsGrid r
    pub cells : (is : List ℕ) (z : A) → cell r is ≡ Some z → e.meaning z ≡ value is

  -- the answer is such an array, or allocation failure; the array where it has no cell
  pub record MakesValues {E : Type 0} (ns : List ℕ) (value : List ℕ → e.Carrier) (r : Result (Grid A) E) : Type 0 where
    pub made : IfOk r (HasValues ns value)
    pub empty : size ns ≡ 0 → IsOk r

  -- the answer is the array of two axes that has the values of a matrix
  abbrev pub MakesMatrix : {E : Type 0} → Matrix e.Carrier → Result (Grid A) E → Type 0
  MakesMatrix m r = MakesValues (m.rows ∷ m.columns ∷ []) (matrix_entries m) r

  -- the answer is the vector that has the values of a matrix of one column
  abbrev pub MakesColumn : {E : Type 0} → Matrix e.Carrier → Result (Grid A) E → Type 0
  MakesColumn m r = MakesValues (m.rows ∷ []) (column_entries m) r

  -- the answer is the vector that has the values of a matrix of one row
  abbrev pub MakesRow : {E : Type 0} → Matrix e.Carrier → Result (Grid A) E → Type 0
  MakesRow m r = MakesValues (m.columns ∷ []) (row_entries m) r

  -- ---- general products, of values alpha and beta

  -- alpha times the sum is in range; and where beta is not zero, so are the old value times beta, and the two added
  pub record CanAddScaled (alpha beta old sum : e.Carrier) : Type 0 where
    pub scaled : e.InRange (e.multiplication.op alpha sum)
    pub kept : beta ≢ e.addition.unit → e.InRange (e.multiplication.op old beta)
    pub added : beta ≢ e.addition.unit → e.InRange (e.addition.op (e.multiplication.op old beta) (e.multiplication.op alpha sum))

  -- the new value is the old one times beta plus alpha times the sum; where beta is zero, alpha times the sum alone
  pub record AddsScaled (alpha beta old sum new : e.Carrier) : Type 0 where
    pub zero : beta ≡ e.addition.unit → new ≡ e.multiplication.op alpha sum
    pub some : beta ≢ e.addition.unit → new ≡ e.addition.op (e.multiplication.op old beta) (e.multiplication.op alpha sum)

  -- that of each cell of an array and the sum at its index list
  abbrev pub CanAccumulate : A → A → (List ℕ → e.Carrier) → Grid A → Type 0
  CanAccumulate alpha beta sum old = (is : List ℕ) (x : A) → cell old is ≡ Some x → CanAddScaled (e.meaning alpha) (e.meaning beta) (e.meaning x) (sum is)

  pub record Accumulates (alpha beta : A) (sum : List ℕ → e.Carrier) (old new : Grid A) : Type 0 where
    pub lengths : new.lengths ≡ old.lengths
    pub whole : IsGrid new
    pub cells : (is : List ℕ) (z : A) → cell new is ≡ Some z → (x : A) × (cell old is ≡ Some x) × AddsScaled (e.meaning alpha) (e.meaning beta) (e.meaning x) (sum is) (e.meaning z)

  -- the same of sums that are the values of elements which are computed at each index list
  pub record AccumulatesEntries {X : Type 0} (numbers : X → List ℕ) (computes : X → A → Type 0) (alpha beta : A) (old new : Grid A) : Type 0 where
    pub lengths : new.lengths ≡ old.lengths
    pub whole : IsGrid new
    pub cells : (is : List ℕ) (z : A) → cell new is ≡ Some z
        → (x : A) × (cell old is ≡ Some x) × (t : X) × (s : A) × (numbers t ≡ is) × computes t s × AddsScaled (e.meaning alpha) (e.meaning beta) (e.meaning x) (e.meaning s) (e.meaning z)

  -- ---- scaled addition

  -- alpha times the right value is in range, and so is the left one added to it
  abbrev pub CanAddProduct : A → A → A → Type 0
  CanAddProduct alpha x y = e.InRange (e.multiplication.op (e.meaning alpha) (e.meaning y))
      × e.InRange (e.addition.op (e.meaning x) (e.multiplication.op (e.meaning alpha) (e.meaning y)))

  -- the left value plus alpha times the right one
  abbrev pub AddsProduct : A → A → A → A → Type 0
  AddsProduct alpha x y z = e.meaning z ≡ e.addition.op (e.meaning x) (e.multiplication.op (e.meaning alpha) (e.meaning y))

  -- ---- Kronecker product

  -- each product of a value of the one and a value of the other is in range
  abbrev pub HasProductsInRange : Matrix e.Carrier → Matrix e.Carrier → Type 0
  HasProductsInRange a b = (i j k l : ℕ) → i < a.rows → j < a.columns → k < b.rows → l < b.columns → e.InRange (e.multiplication.op (a.cell i j) (b.cell k l))

  -- ---- any number of axes

  -- the products along the common axis: of the lane of the left along its last axis and that of the right along its last but one, at the two parts of an index list of the product
  abbrev pub lane_products : Grid A → Grid A → List ℕ → List e.Carrier
  lane_products a b is = products_of e.multiplication e.meaning
      (lane a (length a.lengths - 1) (take (length a.lengths - 1) is)).cells
      (lane b (length b.lengths - 2) (drop (length a.lengths - 1) is)).cells

  -- the product by index lists: the sum of these
  abbrev pub dot_entries : Grid A → Grid A → List ℕ → e.Carrier
  dot_entries a b is = total e.addition (lane_products a b is)

  -- of the products at each index list, every selection has its sum in range
  abbrev pub HasLaneSumsInRange : Grid A → Grid A → Type 0
  HasLaneSumsInRange a b = (is : List ℕ) → InBox (product_lengths a.lengths b.lengths) is → IsSummable e.addition e.InRange (lane_products a b is)
