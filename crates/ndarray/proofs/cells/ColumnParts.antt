-- Products with some columns of a matrix.
use Rattle.std.proofs.Common.{◌≡◌, ◌∙◌, ◌+◌, ◌-◌, ◌<◌, ◌≤◌, ℕ, [], ◌∷◌, ap, arith, get_or, length, set, subst, sym}
use Rattle.ndarray.specs.Grid.{Grid, IsGrid, cell}
use Rattle.ndarray.specs.Index.{InBox}
use Rattle.ndarray.specs.Matrices.{IsSameMatrix, Matrix}
use Rattle.ndarray.specs.Products.{HasSumsInRange, matrix_of, product_of, row_of, value_or}
use Rattle.ndarray.specs.linalg.RowSums.{CanSumRow}
use Rattle.ndarray.specs.Views.{axis_part}
use Rattle.ndarray.specs.declared.elements.Valued.{Ghosts as ValuedGhosts}
use Rattle.ndarray.proofs.callers.SameMatrices.{product-same, same-self, sums-same}
use Rattle.ndarray.proofs.cells.Cells.{tabulate-cell}
use Rattle.ndarray.proofs.cells.Matrices.{two-lengths}

-- n columns of a matrix, from one on
abbrev columns_from : {C : Type 0} → Matrix C → ℕ → ℕ → Matrix C
columns_from m first n = record { rows = m.rows; columns = n; cell = λ i j. m.cell i (first + j) }

module _ {A : Type 0} (e : ValuedGhosts A) (b part : Grid A) (first n : ℕ) (two : length b.lengths ≡ 2) (is_part : part ≡ axis_part b 1 first (first + n)) (whole : IsGrid part) where
  pub part-lengths : part.lengths ≡ get_or b.lengths 0 0 ∷ n ∷ []
  part-lengths =
      ap (λ w. w.lengths) is_part ∙ (ap (λ ns. set ns 1 (first + n - first)) (two-lengths b.lengths two) ∙ ap (λ k. get_or b.lengths 0 0 ∷ k ∷ []) (omega arith))

  pub part-columns : get_or part.lengths 1 0 ≡ n
  part-columns = ap (λ ns. get_or ns 1 0) part-lengths

  part-matrix : IsSameMatrix (matrix_of e part) (columns_from (matrix_of e b) first n)
  part-matrix = record {
    rows = ap (λ ns. get_or ns 0 0) part-lengths;
    columns = part-columns;
    cell = λ i j l m.
        let box : InBox (set b.lengths 1 (first + n - first)) (i ∷ j ∷ []) = subst (λ ns. InBox ns (i ∷ j ∷ [])) (sym (two-lengths part.lengths (ap length part-lengths)) ∙ ap (λ w. w.lengths) is_part) (l, (m, tt)) in
        ap (value_or e.meaning e.addition.unit)
        (ap (λ w. cell w (i ∷ j ∷ [])) is_part
        ∙ tabulate-cell (set b.lengths 1 (first + n - first)) (λ is. cell b (set is 1 (first + get_or is 1 0))) (i ∷ j ∷ []) (subst IsGrid is_part whole) box);
  }

  -- a matrix by these columns
  module _ (a : Matrix e.Carrier) (inner : a.columns ≡ get_or b.lengths 0 0) where
    pub part-inner : a.columns ≡ get_or part.lengths 0 0
    part-inner = inner ∙ sym part-matrix.rows

    pub part-sums : first + n ≤ get_or b.lengths 1 0 → HasSumsInRange e a (matrix_of e b) → HasSumsInRange e a (matrix_of e part)
    part-sums within sums =
        sums-same e a (matrix_of e part) a (columns_from (matrix_of e b) first n) (same-self a) part-matrix part-inner
        (λ i j l m. sums i (first + j) l (omega (arith, within, m)))

    pub part-product : (i j : ℕ) → i < a.rows → first ≤ j → j < first + n → (product_of e a (matrix_of e part)).cell i (j - first) ≡ (product_of e a (matrix_of e b)).cell i j
    part-product i j row from to =
        let columns = part-columns in
        (product-same e a (matrix_of e part) a (columns_from (matrix_of e b) first n) (same-self a) part-matrix part-inner).cell i (j - first) row (omega (arith, columns, from, to))
        ∙ ap ((product_of e a (matrix_of e b)).cell i) (omega (arith, from))

  -- a vector by them
  pub part-can_sum : (x : Grid A) → first + n ≤ get_or b.lengths 1 0 → CanSumRow e x b → CanSumRow e x part
  part-can_sum x within can = record {
    vector = can.vector;
    whole = can.whole;
    inner = part-inner (row_of e x) can.inner;
    sums = part-sums (row_of e x) can.inner within can.sums;
  }
