-- Laws of valid convolutions on any number of axes: filters.
use Rattle.std.specs.Prelude.{◌≡◌, ◌≢◌, ℕ, suc, ◌-◌, List, [], ◌∷◌, filter_map, length, map, slice_index, Some}
use Rattle.ndarray.specs.Algebra.{CommutativeMonoid}
use Rattle.ndarray.specs.Convolution.{full_length, mirrored, product_of_both, single_steps, valid_convolution_by, valid_counts, valid_products}
use Rattle.ndarray.specs.Grid.{Grid, IsGrid, array_by, cell}
use Rattle.ndarray.specs.Index.{InBox, row_order}
use Rattle.ndarray.specs.Products.{value_or}
use Rattle.ndarray.specs.Subviews.{ArePositive, window_index}
use Rattle.ndarray.specs.SumLaws.{AddsUp, MultipliesBy}
use Rattle.ndarray.specs.Sums.{total}

-- the lengths of the full convolution of two arrays
abbrev pub full_lengths : List ℕ → List ℕ → List ℕ
full_lengths [] ms = []
full_lengths (n ∷ ns) [] = []
full_lengths (n ∷ ns) (m ∷ ms) = full_length n m ∷ full_lengths ns ms

-- the differences of two index lists, axis by axis
abbrev pub differences : List ℕ → List ℕ → List ℕ
differences [] is = []
differences (s ∷ ss) [] = []
differences (s ∷ ss) (i ∷ is) = (s - i) ∷ differences ss is

module _ {C : Type 0} (plus times : CommutativeMonoid C) where
  -- the full convolution of two arrays of values: at s, the sum of the products of the first's value at i and the second's at j over all i and j that add up to s
  abbrev pub full_convolution_of : Grid C → Grid C → Grid C
  full_convolution_of g h = array_by (full_lengths g.lengths h.lengths) (λ s. total plus (filter_map (λ is. product_of_both times (λ x. x) (cell g is) (cell h (differences s is))) (row_order (map suc s))))

  -- two filters in turn are one with the full convolution of their kernels, which have cells
  abbrev pub FiltersOnAxesCompose : Type 0
  FiltersOnAxesCompose = (a k l : Grid C) → IsGrid a → IsGrid k → IsGrid l → ArePositive a.lengths k.lengths → ArePositive a.lengths l.lengths
      → valid_convolution_by plus times (λ x. x) (valid_convolution_by plus times (λ x. x) a k) l ≡ valid_convolution_by plus times (λ x. x) a (full_convolution_of k l)

  -- a kernel of two axes is a column times a row: at each row and column it has the product of their values there
  pub record IsColumnTimesRow (column row kernel : Grid C) : Type 0 where
    pub column_lengths : column.lengths ≡ slice_index kernel.lengths 0 ∷ 1 ∷ []
    pub row_lengths : row.lengths ≡ 1 ∷ slice_index kernel.lengths 1 ∷ []
    pub axes : length kernel.lengths ≡ 2
    pub cells : (i j : ℕ) (x y z : C) → cell column (i ∷ 0 ∷ []) ≡ Some x → cell row (0 ∷ j ∷ []) ≡ Some y → cell kernel (i ∷ j ∷ []) ≡ Some z → z ≡ times.op x y

  -- the filter by such a kernel is that by the column and then by the row
  abbrev pub FiltersSeparate : Type 0
  FiltersSeparate = (a column row kernel : Grid C) → IsGrid a → IsGrid column → IsGrid row → IsGrid kernel → ArePositive a.lengths kernel.lengths → IsColumnTimesRow column row kernel
      → valid_convolution_by plus times (λ x. x) a kernel ≡ valid_convolution_by plus times (λ x. x) (valid_convolution_by plus times (λ x. x) a column) row

module _ {A C : Type 0} (plus times : CommutativeMonoid C) (value : A → C) where
  -- what a filter has at a position: the sum of the products of the window there with the mirrored kernel
  abbrev pub filtered_at : Grid A → Grid A → List ℕ → C
  filtered_at g kernel ps = total plus (valid_products times value g kernel ps)

  -- of a sum of arrays it is the sum of those of the arrays
  abbrev pub FiltersOfSums : Type 0
  FiltersOfSums = (g h r kernel : Grid A) → AddsUp plus value g h r → IsGrid kernel → length kernel.lengths ≡ length g.lengths
      → (ps : List ℕ) → InBox (valid_counts g.lengths kernel.lengths) ps → filtered_at r kernel ps ≡ plus.op (filtered_at g kernel ps) (filtered_at h kernel ps)

  -- and of a sum of kernels the sum of those by the kernels
  abbrev pub FiltersBySums : Type 0
  FiltersBySums = (g k l m : Grid A) → IsGrid g → AddsUp plus value k l m → length k.lengths ≡ length g.lengths
      → (ps : List ℕ) → InBox (valid_counts g.lengths k.lengths) ps → filtered_at g m ps ≡ plus.op (filtered_at g k ps) (filtered_at g l ps)

  -- of a multiple of an array it is that multiple
  abbrev pub FiltersOfMultiples : Type 0
  FiltersOfMultiples = (factor : C) (g r kernel : Grid A) → MultipliesBy plus times value factor g r → IsGrid kernel → length kernel.lengths ≡ length g.lengths
      → (ps : List ℕ) → InBox (valid_counts g.lengths kernel.lengths) ps → filtered_at r kernel ps ≡ times.op (filtered_at g kernel ps) factor

  -- and so by a multiple of a kernel
  abbrev pub FiltersByMultiples : Type 0
  FiltersByMultiples = (factor : C) (g k m : Grid A) → IsGrid g → MultipliesBy plus times value factor k m → length k.lengths ≡ length g.lengths
      → (ps : List ℕ) → InBox (valid_counts g.lengths k.lengths) ps → filtered_at g m ps ≡ times.op (filtered_at g k ps) factor

  -- where all values of a kernel but one are neutral, it is that one times the array's value that meets it: a slice of the array times one value
  abbrev pub FiltersByOneCell : Type 0
  FiltersByOneCell = (g kernel : Grid A) → IsGrid g → IsGrid kernel → length kernel.lengths ≡ length g.lengths
      → (js : List ℕ) (k : A) → cell kernel js ≡ Some k → ((is : List ℕ) (x : A) → is ≢ js → cell kernel is ≡ Some x → value x ≡ plus.unit)
      → (ps : List ℕ) → InBox (valid_counts g.lengths kernel.lengths) ps
      → filtered_at g kernel ps ≡ times.op (value k) (value_or value plus.unit (cell g (window_index (single_steps g.lengths) ps (mirrored kernel.lengths js))))
