-- Inner sums of whole numbers that are tested one after another.
use Rattle.std.proofs.Common.{◌≡◌, ◌⊎◌, ℕ, suc, ◌<◌, List, [], ◌∷◌, Bool, true, get_or, remove, insert, length, inl, inr, sym, ap, ◌∙◌, subst, arith, ◌↔◌, ℤ, pos}
use Rattle.std.specs.Prelude.{IsTrue}
use Rattle.std.proofs.lemmas.Bool.{cases_lt}
use Rattle.ndarray.specs.Grid.{Grid, IsGrid, cell}
use Rattle.ndarray.specs.Index.{InBox}
use Rattle.ndarray.specs.Integers.{int_products, int_sums}
use Rattle.ndarray.specs.Matrices.{Matrix, inner_products, values_below}
use Rattle.ndarray.specs.Products.{column_of, magnitude_sum, matrix_of, products_of, row_of, value_at, value_or}
use Rattle.ndarray.specs.Sums.{IsSummable}
use Rattle.ndarray.specs.Views.{axis_item}
use Rattle.ndarray.specs.WholeValues.{HasMagnitudesInRange}
use Rattle.ndarray.specs.declared.elements.Valued.{Ghosts as ValuedGhosts}
use Rattle.ndarray.proofs.cells.Cells.{tabulate-cell}
use Rattle.ndarray.proofs.cells.Matrices.{below-same, column-values, row-values, two-lengths, vector-values}
use Rattle.ndarray.proofs.lists.Decisions.{says_yes}
use Rattle.ndarray.proofs.sums.InnerSums.{products-below}

-- ---- the inner products of a row and a column

module _ {A : Type 0} (e : ValuedGhosts A) where
  -- of a vector, and of column j of a matrix, seen as y
  pub vector-by-column : (x h y : Grid A) → length x.lengths ≡ 1 → IsGrid x → length h.lengths ≡ 2 → get_or x.lengths 0 0 ≡ get_or h.lengths 0 0 → (j : ℕ) → y ≡ axis_item h 1 j → IsGrid y
      → products_of e.multiplication e.meaning x.cells y.cells ≡ inner_products e.multiplication (row_of e x) (matrix_of e h) 0 j
  vector-by-column x h y one x_whole both inner j is y_whole =
      products-below e.multiplication e.meaning x.cells y.cells (get_or x.lengths 0 0) _ _
      (vector-values e.meaning e.addition.unit x x_whole one)
      (column-values e.meaning e.addition.unit h y both y_whole j is ∙ ap (λ n. values_below n (λ k. value_at e h (k ∷ j ∷ []))) (sym inner))

  -- of row i of a matrix, seen as x, and of a vector
  pub row-by-vector : (g x y : Grid A) → length g.lengths ≡ 2 → length y.lengths ≡ 1 → IsGrid y → get_or g.lengths 1 0 ≡ get_or y.lengths 0 0 → (i : ℕ) → x ≡ axis_item g 0 i → IsGrid x
      → products_of e.multiplication e.meaning x.cells y.cells ≡ inner_products e.multiplication (matrix_of e g) (column_of e y) i 0
  row-by-vector g x y two one y_whole inner i is x_whole =
      products-below e.multiplication e.meaning x.cells y.cells (get_or g.lengths 1 0) _ _
      (row-values e.meaning e.addition.unit g x two x_whole i is)
      (vector-values e.meaning e.addition.unit y y_whole one ∙ ap (λ n. values_below n (λ k. value_at e y (k ∷ []))) (sym inner))

  -- row i of a matrix, seen as r, is a matrix of one row
  pub row-of_matrix : (g r : Grid A) (b : Matrix e.Carrier) → length g.lengths ≡ 2 → (i j : ℕ) → r ≡ axis_item g 0 i → IsGrid r
      → inner_products e.multiplication (row_of e r) b 0 j ≡ inner_products e.multiplication (matrix_of e g) b i j
  row-of_matrix g r b two i j is whole =
      let ns = two-lengths g.lengths two in
      let ms : r.lengths ≡ get_or g.lengths 1 0 ∷ [] = ap (λ w. w.lengths) is ∙ ap (λ l. remove l 0) ns in
      ap (λ n. values_below n (λ k. e.multiplication.op (value_at e r (k ∷ [])) (b.cell k j))) (ap (λ l. get_or l 0 0) ms)
      ∙ below-same (get_or g.lengths 1 0) _ _
      (λ k lt. ap (λ o. e.multiplication.op (value_or e.meaning e.addition.unit o) (b.cell k j))
      (ap (λ w. cell w (k ∷ [])) is ∙ tabulate-cell (remove g.lengths 0) (λ is. cell g (insert is 0 i)) (k ∷ []) (subst IsGrid is whole) (subst (λ l. InBox l (k ∷ [])) (sym (ap (λ l. remove l 0) ns)) (lt, tt))))

-- ---- the entries of a product

module _ (fits : ℤ → Type 0) where
  -- the absolute values of these products add up to a number that fits, and so does each selection of them
  abbrev pub ProductsFit : List ℤ → Type 0
  ProductsFit zs = fits (pos (magnitude_sum zs)) × IsSummable int_sums fits zs

  -- what a test says of two lists whose products these are
  module _ {A : Type 0} (number : A → ℤ) (xs ys : List A) (zs : List ℤ) (products : products_of int_products number xs ys ≡ zs) (r : Bool)
      (magnitudes : IsTrue r ↔ fits (pos (magnitude_sum (products_of int_products number xs ys))))
      (selections : IsTrue r → IsSummable int_sums fits (products_of int_products number xs ys)) where
    pub tested-yes : IsTrue r → ProductsFit zs
    tested-yes on = (subst (λ l. fits (pos (magnitude_sum l))) products (magnitudes.0 on), subst (IsSummable int_sums fits) products (selections on))

    pub tested-no : fits (pos (magnitude_sum zs)) → IsTrue r
    tested-no fit = magnitudes.1 (subst (λ l. fits (pos (magnitude_sum l))) (sym products) fit)

  module _ (a b : Matrix ℤ) where
    abbrev pub EntryFits : ℕ → ℕ → Type 0
    EntryFits i j = ProductsFit (inner_products int_products a b i j)

    abbrev pub EntriesFit : Type 0
    EntriesFit = (i j : ℕ) → i < a.rows → j < b.columns → EntryFits i j

    -- all of them were found to fit
    pub entries-yes : EntriesFit → (IsTrue true ↔ HasMagnitudesInRange fits a b)
    entries-yes each = says_yes _ (λ i j row column. (each i j row column).0)

split : (k n : ℕ) → k < suc n → (k < n) ⊎ (k ≡ n)
split k n lt = elim (cases_lt k n) [ inl less ↦ inl less | inr least ↦ inr (omega (arith, lt, least)) ]

-- what holds below a number and at it holds below the next
pub below-next : (P : ℕ → Type 0) (n : ℕ) → ((k : ℕ) → k < n → P k) → P n → (k : ℕ) → k < suc n → P k
below-next P n each here k lt = elim (split k n lt) [ inl less ↦ each k less | inr same ↦ subst P (sym same) here ]
