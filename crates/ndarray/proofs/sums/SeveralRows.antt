-- Several rows at once added to sums, each with its number: one row after another, and the sums over some rows more.
use Rattle.std.proofs.Common.{◌≡◌, ◌∙◌, ℕ, ◌+◌, ◌<◌, List, [], ◌∷◌, add-one, ap, arith, get_or, length, map, refl, subst, sym}
use Rattle.std.specs.Prelude.{⊤}
use Rattle.std.proofs.lemmas.List.{get_or_default, get_or_past}
use Rattle.ndarray.specs.Matrices.{values_below}
use Rattle.ndarray.specs.linalg.RowSums.{AddsRows, AddsScaledRow, AreAsLong, CanAddProducts, CanAddRows, CanAddScaledRow, column_with_numbers, sum_with_products}
use Rattle.ndarray.specs.Sums.{IsSummable, total}
use Rattle.ndarray.specs.declared.elements.Valued.{Ghosts as ValuedGhosts}
use Rattle.ndarray.proofs.sums.Fronts.{total-more}
use Rattle.ndarray.proofs.sums.RowSums.{below-added, below-in_range, below-more, value-at, values-are, values-length}

module _ {A : Type 0} (e : ValuedGhosts A) where
  -- ---- one row after another

  pub AddsRows-none : (sums : List A) → AddsRows e [] sums sums
  AddsRows-none sums = record { same = refl; each = λ j d lt c. ap e.meaning (get_or_default sums j d c lt); others = λ j d le. refl }

  module _ (x : A) (ys : List A) (rows : List (A × List A)) (sums : List A) (can : CanAddRows e ((x, ys) ∷ rows) sums) where
    -- the first row may be added alone
    pub first-can_add : CanAddScaledRow e x sums ys
    first-can_add = record { same = sym can.same.0; each = λ j d lt. let at = can.each j (let long = can.same.0 in omega (arith, long, lt)) d in (at.0, at.1) }

    module _ (new : List A) (done : AddsScaledRow e x ys sums new) where
      -- and then the others
      pub others-can_add : CanAddRows e rows new
      others-can_add = record {
        same = subst (λ n. AreAsLong e n rows) (sym done.same) can.same.1;
        each = λ j lt d.
            let inside : j < length sums = let same = done.same in omega (arith, same, lt) in
            subst (CanAddProducts e (column_with_numbers e j d rows)) (sym (done.each j d (let long = can.same.0 in omega (arith, long, inside)))) (can.each j inside d).2;
      }

      pub others-added : (all : List A) → AddsRows e rows new all → AddsRows e ((x, ys) ∷ rows) sums all
      others-added all more = record {
        same = more.same ∙ done.same;
        each = λ j d lt c.
            let here : j < length ys = let long = can.same.0 in omega (arith, long, lt) in
            more.each j d (let same = done.same in omega (arith, same, lt)) c ∙ ap (sum_with_products e (column_with_numbers e j c rows)) (done.each j c here);
        others = λ j d le.
            let long : length all ≡ length sums = more.same ∙ done.same in
            get_or_past all j d (omega (arith, long, le)) ∙ sym (get_or_past sums j d le);
      }

  -- ---- the sums over some rows more

  -- the sums of n columns, of k rows, where f j i is the product in column j and row i
  module _ (n k : ℕ) (f : ℕ → ℕ → e.Carrier) where
    -- y and ys are the number and the elements of row i
    pub record IsRow (i : ℕ) (y : A) (ys : List A) : Type 0 where
      pub within : i < k
      pub many : length ys ≡ n
      pub products : (j : ℕ) (d : A) → j < n → e.multiplication.op (e.meaning y) (e.meaning (get_or ys j d)) ≡ f j i

    -- the rows from i on
    abbrev pub AreRows : ℕ → List (A × List A) → Type 0
    AreRows i [] = ⊤
    AreRows i ((y, ys) ∷ more) = IsRow i y ys × AreRows (i + 1) more

    rows-long : (i : ℕ) (rows : List (A × List A)) → AreRows i rows → AreAsLong e n rows
    rows-long i [] h = tt
    rows-long i ((y, ys) ∷ rows) h = (h.0.many, rows-long (i + 1) rows h.1)

    one-more : (i j : ℕ) (y : A) (ys : List A) (d : A) (s : e.Carrier) → IsRow i y ys → j < n → s ≡ total e.addition (values_below i (f j))
        → e.addition.op s (e.multiplication.op (e.meaning y) (e.meaning (get_or ys j d))) ≡ total e.addition (values_below (i + 1) (f j))
    one-more i j y ys d s row lt so_far =
        ap (λ t. e.addition.op t (e.multiplication.op (e.meaning y) (e.meaning (get_or ys j d)))) so_far
        ∙ (ap (e.addition.op (total e.addition (values_below i (f j)))) (row.products j d lt)
        ∙ sym (rw add-one (ap (total e.addition) (below-more i (f j)) ∙ total-more e.addition (values_below i (f j)) (f j i))))

    column-can : (rows : List (A × List A)) (i j : ℕ) (d : A) (s : e.Carrier) → AreRows i rows → j < n → IsSummable e.addition e.InRange (values_below k (f j))
        → s ≡ total e.addition (values_below i (f j)) → CanAddProducts e (column_with_numbers e j d rows) s
    column-can [] i j d s h lt can so_far = tt
    column-can ((y, ys) ∷ rows) i j d s h lt can so_far =
        let next = one-more i j y ys d s h.0 lt so_far in (
          subst e.InRange (sym (h.0.products j d lt)) (below-in_range e.addition e.InRange i k (f j) h.0.within can),
          subst e.InRange (sym (ap (λ t. e.addition.op t (e.multiplication.op (e.meaning y) (e.meaning (get_or ys j d)))) so_far ∙ ap (e.addition.op (total e.addition (values_below i (f j)))) (h.0.products j d lt))) (below-added e.addition e.InRange i k (f j) h.0.within can),
          column-can rows (i + 1) j d _ h.1 lt can next,
        )

    column-added : (rows : List (A × List A)) (i j : ℕ) (d : A) (s : e.Carrier) → AreRows i rows → j < n
        → s ≡ total e.addition (values_below i (f j)) → sum_with_products e (column_with_numbers e j d rows) s ≡ total e.addition (values_below (i + length rows) (f j))
    column-added [] i j d s h lt so_far = so_far ∙ ap (λ m. total e.addition (values_below m (f j))) (omega arith)
    column-added ((y, ys) ∷ rows) i j d s h lt so_far =
        column-added rows (i + 1) j d _ h.1 lt (one-more i j y ys d s h.0 lt so_far)
        ∙ ap (λ m. total e.addition (values_below m (f j))) (omega arith)

    module _ (i : ℕ) (rows : List (A × List A)) (h : AreRows i rows) (sums : List A) (so_far : map e.meaning sums ≡ values_below n (λ j. total e.addition (values_below i (f j)))) where
      as_many : length sums ≡ n
      as_many = values-length e.meaning sums n _ so_far

      sum-at : (j : ℕ) (d : A) → j < n → e.meaning (get_or sums j d) ≡ total e.addition (values_below i (f j))
      sum-at j d lt = value-at e.meaning sums n (λ m. total e.addition (values_below i (f m))) j d so_far lt

      pub rows-can_add : ((j : ℕ) → j < n → IsSummable e.addition e.InRange (values_below k (f j))) → CanAddRows e rows sums
      rows-can_add can = record {
        same = subst (λ m. AreAsLong e m rows) (sym as_many) (rows-long i rows h);
        each = λ j lt d. let b : j < n = subst (λ m. j < m) as_many lt in column-can rows i j d _ h b (can j b) (sum-at j d b);
      }

      pub rows-added : (new : List A) → AddsRows e rows sums new → map e.meaning new ≡ values_below n (λ j. total e.addition (values_below (i + length rows) (f j)))
      rows-added new done =
          values-are e.meaning new n _ (done.same ∙ as_many)
          (λ j d lt. done.each j d (subst (λ m. j < m) (sym as_many) lt) d ∙ column-added rows i j d _ h lt (sum-at j d lt))
