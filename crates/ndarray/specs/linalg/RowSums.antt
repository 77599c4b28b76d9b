-- Rows of products: the sums of the products of a vector with each column of a matrix, as they are made.
use Rattle.std.specs.Prelude.{◌≡◌, ℕ, ◌<◌, ◌≤◌, List, [], ◌∷◌, ⊤, length, map, slice_index, slice_index_or}
use Rattle.ndarray.specs.Grid.{Grid, IsGrid}
use Rattle.ndarray.specs.Matrices.{values_below}
use Rattle.ndarray.specs.Products.{AddsProduct, CanAddProduct, HasSumsInRange, matrix_of, product_of, row_of, value_at}
use Rattle.ndarray.specs.Sums.{total}
use Rattle.ndarray.specs.declared.elements.Valued.{Ghosts as ValuedGhosts}

module _ {A : Type 0} (e : ValuedGhosts A) where
  -- a vector and a matrix with a row for each of its cells, of which each inner sum may be taken
  pub record CanSumRow (x b : Grid A) : Type 0 where
    pub vector : length x.lengths ≡ 1
    pub whole : IsGrid x
    pub inner : slice_index x.lengths 0 ≡ slice_index b.lengths 0
    pub sums : HasSumsInRange e (row_of e x) (matrix_of e b)

  -- the inner sums, one for each column
  abbrev pub row_sums : Grid A → Grid A → List e.Carrier
  row_sums x b = values_below (slice_index b.lengths 1) ((product_of e (row_of e x) (matrix_of e b)).cell 0)

  -- those of the first i rows alone
  abbrev pub row_sums_to : ℕ → Grid A → Grid A → List e.Carrier
  row_sums_to i x b = values_below (slice_index b.lengths 1) (λ j. total e.addition (values_below i (λ k. e.multiplication.op (value_at e x (k ∷ [])) (value_at e b (k ∷ j ∷ [])))))

  -- x times each element of ys may be added to the sum at its place
  pub record CanAddScaledRow (x : A) (sums ys : List A) : Type 0 where
    pub same : length sums ≡ length ys
    pub each : (j : ℕ) (d : A) → j < length ys → CanAddProduct e x (slice_index_or sums j d) (slice_index_or ys j d)

  -- it was added
  pub record AddsScaledRow (x : A) (ys old new : List A) : Type 0 where
    pub same : length new ≡ length old
    pub each : (j : ℕ) (d : A) → j < length ys → AddsProduct e x (slice_index_or old j d) (slice_index_or ys j d) (slice_index_or new j d)

  -- ---- several rows at once, each with its number

  -- the products of numbers and elements may be added to a value one after another
  abbrev pub CanAddProducts : List (A × A) → e.Carrier → Type 0
  CanAddProducts [] s = ⊤
  CanAddProducts ((x, y) ∷ more) s = e.InRange (e.multiplication.op (e.meaning x) (e.meaning y))
      × e.InRange (e.addition.op s (e.multiplication.op (e.meaning x) (e.meaning y)))
      × CanAddProducts more (e.addition.op s (e.multiplication.op (e.meaning x) (e.meaning y)))

  -- the value with them added
  abbrev pub sum_with_products : List (A × A) → e.Carrier → e.Carrier
  sum_with_products [] s = s
  sum_with_products ((x, y) ∷ more) s = sum_with_products more (e.addition.op s (e.multiplication.op (e.meaning x) (e.meaning y)))

  -- the elements of the rows at place j, each with the number of its row
  abbrev pub column_with_numbers : ℕ → A → List (A × List A) → List (A × A)
  column_with_numbers j d rows = map (λ r. (r.0, slice_index_or r.1 j d)) rows

  -- the products may be added to the sum at place j
  abbrev pub CanAddRowsAt : ℕ → List (A × List A) → List A → Type 0
  CanAddRowsAt j rows sums = (d : A) → CanAddProducts (column_with_numbers j d rows) (e.meaning (slice_index_or sums j d))

  -- they were added to it
  abbrev pub AddsRowsAt : ℕ → List (A × List A) → List A → A → Type 0
  AddsRowsAt j rows sums z = (d : A) → e.meaning z ≡ sum_with_products (column_with_numbers j d rows) (e.meaning (slice_index_or sums j d))

  -- each row has n elements
  abbrev pub AreAsLong : ℕ → List (A × List A) → Type 0
  AreAsLong n [] = ⊤
  AreAsLong n ((x, ys) ∷ more) = (length ys ≡ n) × AreAsLong n more

  -- rows as long as the sums, and at each place the products may be added
  pub record CanAddRows (rows : List (A × List A)) (sums : List A) : Type 0 where
    pub same : AreAsLong (length sums) rows
    pub each : (j : ℕ) → j < length sums → CanAddRowsAt j rows sums

  -- at the first places they were added, and the other sums are as before
  pub record AddsRowsTo (places : ℕ) (rows : List (A × List A)) (old new : List A) : Type 0 where
    pub same : length new ≡ length old
    pub each : (j : ℕ) (d : A) → j < places → AddsRowsAt j rows old (slice_index_or new j d)
    pub others : (j : ℕ) (d : A) → places ≤ j → slice_index_or new j d ≡ slice_index_or old j d

  -- they were added at each place
  abbrev pub AddsRows : List (A × List A) → List A → List A → Type 0
  AddsRows rows old new = AddsRowsTo (length old) rows old new
