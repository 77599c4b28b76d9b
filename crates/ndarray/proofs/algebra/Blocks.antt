-- Products of matrices of blocks.
use Rattle.std.proofs.Common.{◌≡◌, ◌∙◌, ◌+◌, ◌-◌, ◌<◌, ℕ, Bool, true, false, if◌then◌else◌, ap, arith, refl, sym}
use Rattle.std.specs.Prelude.{nat_lt}
use Rattle.std.proofs.lemmas.Bool.{le-ltb, lt-ltb}
use Rattle.ndarray.specs.Algebra.{CommutativeMonoid}
use Rattle.ndarray.specs.BlockLaws.{BlocksMultiply, ColumnsMultiply, RowsMultiply, RowsOfProducts}
use Rattle.ndarray.proofs.algebra.MatrixProducts.{sum_below, sum_same, sum_split}

module _ {C : Type 0} (plus times : CommutativeMonoid C) where
  pub blocks-multiply : BlocksMultiply plus times
  blocks-multiply a b c d inner = record {
    rows = refl;
    columns = refl;
    cell = λ i j l m.
        sum_split plus a.columns b.columns (λ k. times.op (left i k) (right k j))
        ∙ (ap (λ t. plus.op t (sum_below plus b.columns (λ k. times.op (left i (a.columns + k)) (right (a.columns + k) j))))
        (sum_same plus a.columns _ _ (λ k h. ap (λ t. times.op t (right k j)) (in-first i k h) ∙ ap (times.op (a.cell i k)) (in-upper k j h)))
        ∙ ap (plus.op (sum_below plus a.columns (λ k. times.op (a.cell i k) (c.cell k j))))
        (sum_same plus b.columns _ _ (λ k h. ap (λ t. times.op t (right (a.columns + k) j)) (in-second i k) ∙ ap (times.op (b.cell i k)) (in-lower k j))));
  }
    where
      left : ℕ → ℕ → C
      left i k = if nat_lt k a.columns then a.cell i k else b.cell i (k - a.columns)

      right : ℕ → ℕ → C
      right k j = if nat_lt k c.rows then c.cell k j else d.cell (k - c.rows) j

      in-first : (i k : ℕ) → k < a.columns → left i k ≡ a.cell i k
      in-first i k h = ap (λ t. if t then a.cell i k else b.cell i (k - a.columns)) (lt-ltb k a.columns h)

      in-second : (i k : ℕ) → left i (a.columns + k) ≡ b.cell i k
      in-second i k =
          ap (λ t. if t then a.cell i (a.columns + k) else b.cell i (a.columns + k - a.columns)) (le-ltb (a.columns + k) a.columns (omega arith))
          ∙ ap (b.cell i) (omega arith)

      in-upper : (k j : ℕ) → k < a.columns → right k j ≡ c.cell k j
      in-upper k j h = ap (λ t. if t then c.cell k j else d.cell (k - c.rows) j) (lt-ltb k c.rows (omega (arith, h, inner)))

      in-lower : (k j : ℕ) → right (a.columns + k) j ≡ d.cell k j
      in-lower k j =
          ap (λ t. if t then c.cell (a.columns + k) j else d.cell (a.columns + k - c.rows) j) (le-ltb (a.columns + k) c.rows (omega (arith, inner)))
          ∙ ap (λ n. d.cell n j) (omega (arith, inner))

  pub columns-multiply : ColumnsMultiply plus times
  columns-multiply a b c = record { rows = refl; columns = refl; cell = λ i j l m. each i j (nat_lt j b.columns) refl }
    where
      right : ℕ → ℕ → C
      right k j = if nat_lt j b.columns then b.cell k j else c.cell k (j - b.columns)

      each : (i j : ℕ) (t : Bool) → nat_lt j b.columns ≡ t → sum_below plus a.columns (λ k. times.op (a.cell i k) (right k j))
          ≡ (if nat_lt j b.columns then sum_below plus a.columns (λ k. times.op (a.cell i k) (b.cell k j)) else sum_below plus a.columns (λ k. times.op (a.cell i k) (c.cell k (j - b.columns))))
      each i j true e =
          sum_same plus a.columns _ _ (λ k h. ap (λ t. times.op (a.cell i k) (if t then b.cell k j else c.cell k (j - b.columns))) e)
          ∙ sym (ap (λ t. if t then sum_below plus a.columns (λ k. times.op (a.cell i k) (b.cell k j)) else sum_below plus a.columns (λ k. times.op (a.cell i k) (c.cell k (j - b.columns)))) e)
      each i j false e =
          sum_same plus a.columns _ _ (λ k h. ap (λ t. times.op (a.cell i k) (if t then b.cell k j else c.cell k (j - b.columns))) e)
          ∙ sym (ap (λ t. if t then sum_below plus a.columns (λ k. times.op (a.cell i k) (b.cell k j)) else sum_below plus a.columns (λ k. times.op (a.cell i k) (c.cell k (j - b.columns)))) e)

  pub rows-multiply : RowsMultiply plus times
  rows-multiply a b c same = record { rows = refl; columns = refl; cell = λ i j l m. each i j (nat_lt i a.rows) refl }
    where
      left : ℕ → ℕ → C
      left i k = if nat_lt i a.rows then a.cell i k else b.cell (i - a.rows) k

      each : (i j : ℕ) (t : Bool) → nat_lt i a.rows ≡ t → sum_below plus a.columns (λ k. times.op (left i k) (c.cell k j))
          ≡ (if nat_lt i a.rows then sum_below plus a.columns (λ k. times.op (a.cell i k) (c.cell k j)) else sum_below plus b.columns (λ k. times.op (b.cell (i - a.rows) k) (c.cell k j)))
      each i j true e =
          sum_same plus a.columns _ _ (λ k h. ap (λ t. times.op (if t then a.cell i k else b.cell (i - a.rows) k) (c.cell k j)) e)
          ∙ sym (ap (λ t. if t then sum_below plus a.columns (λ k. times.op (a.cell i k) (c.cell k j)) else sum_below plus b.columns (λ k. times.op (b.cell (i - a.rows) k) (c.cell k j))) e)
      each i j false e =
          sum_same plus a.columns _ _ (λ k h. ap (λ t. times.op (if t then a.cell i k else b.cell (i - a.rows) k) (c.cell k j)) e)
          ∙ (ap (λ n. sum_below plus n (λ k. times.op (b.cell (i - a.rows) k) (c.cell k j))) same
          ∙ sym (ap (λ t. if t then sum_below plus a.columns (λ k. times.op (a.cell i k) (c.cell k j)) else sum_below plus b.columns (λ k. times.op (b.cell (i - a.rows) k) (c.cell k j))) e))

  pub rows-of_products : RowsOfProducts plus times
  rows-of_products a b i = record { rows = refl; columns = refl; cell = λ k j l m. refl }
