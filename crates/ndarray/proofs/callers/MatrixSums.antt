-- From arrays that calls made to sums and multiples of matrices, and to rows and triangles of them.
use Rattle.std.proofs.Common.{◌≡◌, ◌≢◌, ◌∙◌, ◌<◌, ℕ, List, [], ◌∷◌, Option, Some, None, ap, get_or, length, refl, subst, sym}
use Rattle.ndarray.specs.Elementwise.{Assigns}
use Rattle.ndarray.specs.Grid.{Grid, IsGrid, cell}
use Rattle.ndarray.specs.Index.{InBox}
use Rattle.ndarray.specs.Matrices.{IsSameMatrix, Matrix}
use Rattle.ndarray.specs.MatrixSums.{matrix_multiple, matrix_sum}
use Rattle.ndarray.specs.Products.{Accumulates, AddsProduct, matrix_entries, matrix_of, value_at, value_or}
use Rattle.ndarray.specs.SumLaws.{AddsUp, MultipliesBy}
use Rattle.ndarray.specs.Views.{broadcast_to}
use Rattle.ndarray.specs.declared.elements.Valued.{Ghosts as ValuedGhosts}
use Rattle.ndarray.proofs.algebra.AddedTotals.{at-product, at-sum, lengths-added}
use Rattle.ndarray.proofs.algebra.Totals.{value_of}
use Rattle.ndarray.proofs.cells.Cells.{cell-Some}
use Rattle.ndarray.proofs.cells.Matrices.{two-lengths}
use Rattle.ndarray.proofs.views.OwnLengths.{broadcast_to-own}

module _ {A : Type 0} (e : ValuedGhosts A) where
  seen : (o : Option A) → value_or e.meaning e.addition.unit o ≡ value_of e.addition e.meaning o
  seen None = refl
  seen (Some x) = refl

  -- the sum of two arrays of two axes is, as a matrix, the sum of their matrices
  pub sum-matrix : (g h r : Grid A) → AddsUp e.addition e.meaning g h r → IsSameMatrix (matrix_of e r) (matrix_sum e.addition (matrix_of e g) (matrix_of e h))
  sum-matrix g h r adds =
      let lengths = lengths-added e.addition e.meaning g h r adds in
      record {
        rows = ap (λ ns. get_or ns 0 0) lengths;
        columns = ap (λ ns. get_or ns 1 0) lengths;
        cell = λ i j l m.
            let is : List ℕ = i ∷ j ∷ [] in
            seen (cell r is)
            ∙ (at-sum e.addition e.meaning g h r adds is
            ∙ sym (ap (λ t. e.addition.op t (value_at e h is)) (seen (cell g is)) ∙ ap (e.addition.op (value_of e.addition e.meaning (cell g is))) (seen (cell h is))));
      }

  -- an array times a scalar is that multiple of its matrix, where zero times a value is zero
  pub multiple-matrix : ((x : e.Carrier) → e.multiplication.op e.addition.unit x ≡ e.addition.unit)
      → ((x y z : e.Carrier) → e.multiplication.op x (e.addition.op y z) ≡ e.addition.op (e.multiplication.op x y) (e.multiplication.op x z))
      → (factor : e.Carrier) (g r : Grid A) → MultipliesBy e.addition e.multiplication e.meaning factor g r → IsSameMatrix (matrix_of e r) (matrix_multiple e.multiplication factor (matrix_of e g))
  multiple-matrix absorbs distributes factor g r by =
      let lengths = by.products.lengths in
      record {
        rows = ap (λ ns. get_or ns 0 0) lengths;
        columns = ap (λ ns. get_or ns 1 0) lengths;
        cell = λ i j l m.
            let is : List ℕ = i ∷ j ∷ [] in
            seen (cell r is)
            ∙ (at-product e.addition e.meaning e.multiplication distributes absorbs factor g r by is
            ∙ (ap (λ t. e.multiplication.op t factor) (sym (seen (cell g is))) ∙ e.multiplication.commutes (value_at e g is) factor));
      }

  -- what `scaled_add` leaves of an array of two axes, to which another of its lengths was added: the sum of its matrix and a multiple of the other's
  pub scaled_sum-matrix : (alpha : A) (old other new : Grid A) → IsGrid other → length old.lengths ≡ 2 → other.lengths ≡ old.lengths → Assigns (AddsProduct e alpha) old other new
      → IsSameMatrix (matrix_of e new) (matrix_sum e.addition (matrix_of e old) (matrix_multiple e.multiplication (e.meaning alpha) (matrix_of e other)))
  scaled_sum-matrix alpha old other new whole two same assigns =
      let lengths = assigns.lengths in
      let own : broadcast_to other old.lengths ≡ other = ap (broadcast_to other) (sym same) ∙ broadcast_to-own other whole in
      record {
        rows = ap (λ ns. get_or ns 0 0) lengths;
        columns = ap (λ ns. get_or ns 1 0) lengths;
        cell = λ i j l m.
            let is : List ℕ = i ∷ j ∷ [] in
            let (z, here) = cell-Some new assigns.whole is (in_box new (ap length lengths ∙ two) i j l m) in
            let (x, y, both, sum) = assigns.cells is z here in
            let beside : cell other is ≡ Some y = sym (ap (λ v. cell v is) own) ∙ both.1 in
            ap (value_or e.meaning e.addition.unit) here
            ∙ (sum
            ∙ sym (ap (λ t. e.addition.op (value_or e.meaning e.addition.unit t) (e.multiplication.op (e.meaning alpha) (value_at e other is))) both.0
            ∙ ap (λ t. e.addition.op (e.meaning x) (e.multiplication.op (e.meaning alpha) (value_or e.meaning e.addition.unit t))) beside));
      }
    where
      in_box : (g : Grid A) → length g.lengths ≡ 2 → (i j : ℕ) → i < get_or g.lengths 0 0 → j < get_or g.lengths 1 0 → InBox g.lengths (i ∷ j ∷ [])
      in_box g axes i j l m = subst (λ ns. InBox ns (i ∷ j ∷ [])) (sym (two-lengths g.lengths axes)) (l, (m, tt))

  -- what a general product leaves, where beta is not zero: beta times the old matrix, plus alpha times the product
  pub general-matrix : (alpha beta : A) → e.meaning beta ≢ e.addition.unit → (m : Matrix e.Carrier) (old new : Grid A) → old.lengths ≡ m.rows ∷ m.columns ∷ [] → Accumulates e alpha beta (matrix_entries m) old new
      → IsSameMatrix (matrix_of e new) (matrix_sum e.addition (matrix_multiple e.multiplication (e.meaning beta) (matrix_of e old)) (matrix_multiple e.multiplication (e.meaning alpha) m))
  general-matrix alpha beta some m old new lengths accumulates =
      let same = accumulates.lengths in
      record {
        rows = ap (λ ns. get_or ns 0 0) same;
        columns = ap (λ ns. get_or ns 1 0) same;
        cell = λ i j l k.
            let is : List ℕ = i ∷ j ∷ [] in
            let first : get_or new.lengths 0 0 ≡ m.rows = ap (λ ns. get_or ns 0 0) (same ∙ lengths) in
            let second : get_or new.lengths 1 0 ≡ m.columns = ap (λ ns. get_or ns 1 0) (same ∙ lengths) in
            let (z, here) = cell-Some new accumulates.whole is (subst (λ ns. InBox ns is) (sym (same ∙ lengths)) (subst (λ n. i < n) first l, (subst (λ n. j < n) second k, tt))) in
            let (x, there, sum) = accumulates.cells is z here in
            ap (value_or e.meaning e.addition.unit) here
            ∙ (sum.some some
            ∙ (ap (λ t. e.addition.op t (e.multiplication.op (e.meaning alpha) (m.cell i j))) (e.multiplication.commutes (e.meaning x) (e.meaning beta))
            ∙ ap (λ t. e.addition.op (e.multiplication.op (e.meaning beta) (value_or e.meaning e.addition.unit t)) (e.multiplication.op (e.meaning alpha) (m.cell i j))) (sym there)));
      }
