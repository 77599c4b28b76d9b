-- The product of arrays of any number of axes, where they are vectors and matrices, and of three of them.
use Rattle.std.specs.Prelude.{◌≡◌, ◌⊎◌, ◌↔◌, ◌≤◌, ℕ, ◌-◌, ◌==◌, if◌then◌else◌, List, [], ◌∷◌, ◌++◌, length, slice_index}
use Rattle.ndarray.specs.Grid.{Grid, IsGrid}
use Rattle.ndarray.specs.Index.{InBox}
use Rattle.ndarray.specs.Limits.{IsWithinLimit}
use Rattle.ndarray.specs.Matrices.{Matrix}
use Rattle.ndarray.specs.Products.{HasLaneSumsInRange, HasSumsInRange, HasValues, ShapesMultiply, column_of, dot_entries, matrix_of, product_lengths, product_of, row_of}
use Rattle.ndarray.specs.declared.elements.Valued.{Ghosts as ValuedGhosts}

-- a vector or a matrix
abbrev pub HasOneOrTwoAxes : List ℕ → Type 0
HasOneOrTwoAxes ns = (length ns ≡ 1) ⊎ (length ns ≡ 2)

-- the last length of the left is the first of the right, and the product is within the limit
pub record MatricesMultiply (ns ms : List ℕ) : Type 0 where
  pub inner : slice_index ns (length ns - 1) ≡ slice_index ms 0
  pub limit : IsWithinLimit (product_lengths ns ms)

-- vectors and matrices multiply where these hold
abbrev pub ShapesMultiplyAsMatrices : Type 0
ShapesMultiplyAsMatrices = (ns ms : List ℕ) → HasOneOrTwoAxes ns → HasOneOrTwoAxes ms → ShapesMultiply ns ms ↔ MatricesMultiply ns ms

module _ {A : Type 0} (e : ValuedGhosts A) where
  -- a vector or matrix on the left, and on the right
  abbrev pub left_matrix : Grid A → Matrix e.Carrier
  left_matrix g = if length g.lengths == 1 then row_of e g else matrix_of e g

  abbrev pub right_matrix : Grid A → Matrix e.Carrier
  right_matrix g = if length g.lengths == 1 then column_of e g else matrix_of e g

  -- the product by the index lists of what is left of its axes: that of a left vector's row is taken out, and that of a right vector's column
  abbrev pub product_entries : Grid A → Grid A → List ℕ → e.Carrier
  product_entries a b is = (product_of e (left_matrix a) (right_matrix b)).cell
      (if length a.lengths == 1 then 0 else slice_index is 0)
      (if length b.lengths == 1 then 0 else slice_index is (length a.lengths - 1))

  -- two arrays that are vectors or matrices and multiply
  pub record MultiplyAsMatrices (a b : Grid A) : Type 0 where
    pub left : HasOneOrTwoAxes a.lengths
    pub right : HasOneOrTwoAxes b.lengths
    pub left_whole : IsGrid a
    pub right_whole : IsGrid b
    pub shapes : ShapesMultiply a.lengths b.lengths

  -- the sums of their lanes stay in range where those of their rows and columns do
  abbrev pub LaneSumsAreMatrixSums : Type 0
  LaneSumsAreMatrixSums = (a b : Grid A) → MultiplyAsMatrices a b → HasLaneSumsInRange e a b ↔ HasSumsInRange e (left_matrix a) (right_matrix b)

  -- an array that has the sums of their lanes has the values of the product of the matrices
  abbrev pub DotIsMatrixProduct : Type 0
  DotIsMatrixProduct = (a b r : Grid A) → MultiplyAsMatrices a b
      → HasValues e (product_lengths a.lengths b.lengths) (dot_entries e a b) r → HasValues e (product_lengths a.lengths b.lengths) (product_entries a b) r

  -- vectors or matrices of which the last length of the left is the first of the right; their product may be of any size
  pub record MeetAsMatrices (a b : Grid A) : Type 0 where
    pub left : HasOneOrTwoAxes a.lengths
    pub right : HasOneOrTwoAxes b.lengths
    pub left_whole : IsGrid a
    pub right_whole : IsGrid b
    pub inner : slice_index a.lengths (length a.lengths - 1) ≡ slice_index b.lengths 0

  -- the lengths of the product of the matrices, without that of a left vector's row and of a right vector's column
  abbrev pub matrix_lengths : Grid A → Grid A → List ℕ
  matrix_lengths a b = (if length a.lengths == 1 then [] else slice_index a.lengths 0 ∷ []) ++ (if length b.lengths == 1 then [] else slice_index b.lengths 1 ∷ [])

  -- the definition of the product by lanes is that of the product of the matrices: the lengths, each entry, and which entries are sums in range; so an array has the values of the one exactly where it has those of the other
  pub record DotAgrees (a b : Grid A) : Type 0 where
    pub lengths : product_lengths a.lengths b.lengths ≡ matrix_lengths a b
    pub entries : (is : List ℕ) → InBox (product_lengths a.lengths b.lengths) is → dot_entries e a b is ≡ product_entries a b is
    pub ranges : HasLaneSumsInRange e a b ↔ HasSumsInRange e (left_matrix a) (right_matrix b)
    pub arrays : (r : Grid A) → HasValues e (product_lengths a.lengths b.lengths) (dot_entries e a b) r ↔ HasValues e (matrix_lengths a b) (product_entries a b) r

  -- it is so of any two that meet
  abbrev pub DefinitionsOfDotAgree : Type 0
  DefinitionsOfDotAgree = (a b : Grid A) → MeetAsMatrices a b → DotAgrees a b

  -- The left meets the one in the middle, and this the right one. The right one has two axes, and the one in the middle two or more; or the right one has one, and the one in the middle two.
  pub record MeetInTurn (a b c : Grid A) : Type 0 where
    pub left_whole : IsGrid a
    pub middle_whole : IsGrid b
    pub right_whole : IsGrid c
    pub some : 1 ≤ length a.lengths
    pub axes : ((2 ≤ length b.lengths) × (length c.lengths ≡ 2)) ⊎ ((length b.lengths ≡ 2) × (length c.lengths ≡ 1))
    pub left_inner : slice_index a.lengths (length a.lengths - 1) ≡ slice_index b.lengths (length b.lengths - 2)
    pub right_inner : slice_index b.lengths (length b.lengths - 1) ≡ slice_index c.lengths 0

  -- the products of p and c, and of a and q, have the same lengths, and at each index list the same entry
  pub record DotAssociates (a c p q : Grid A) : Type 0 where
    pub lengths : product_lengths p.lengths c.lengths ≡ product_lengths a.lengths q.lengths
    pub entries : (is : List ℕ) → InBox (product_lengths p.lengths c.lengths) is → dot_entries e p c is ≡ dot_entries e a q is

  -- it is so where p has the product of a and b, and q that of b and c
  abbrev pub DotsAssociate : Type 0
  DotsAssociate = (a b c p q : Grid A) → MeetInTurn a b c
      → HasValues e (product_lengths a.lengths b.lengths) (dot_entries e a b) p → HasValues e (product_lengths b.lengths c.lengths) (dot_entries e b c) q
      → DotAssociates a c p q
