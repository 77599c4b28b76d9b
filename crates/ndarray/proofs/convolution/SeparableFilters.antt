-- Filters by a column and then by a row.
use Rattle.std.proofs.Common.{◌≡◌, ◌≢◌, ◌∙◌, ℕ, zero, suc, ◌+◌, ◌-◌, ◌<◌, ◌≤◌, inl, inr, List, [], ◌∷◌, length, get_or, Some, ap, sym, arith, subst}
use Rattle.std.specs.Prelude.{All}
use Rattle.std.proofs.lemmas.Bool.{cases_lt}
use Rattle.std.proofs.lemmas.List.Elements.{All-cons, All-contains, All-nil}
use Rattle.ndarray.specs.Algebra.{CommutativeMonoid}
use Rattle.ndarray.specs.Convolution.{full_length, valid_convolution_by}
use Rattle.ndarray.specs.FilterLaws.{FiltersSeparate, IsColumnTimesRow, differences, full_convolution_of, full_lengths}
use Rattle.ndarray.specs.Grid.{Grid, IsGrid, cell}
use Rattle.ndarray.specs.Index.{InBox, row_order}
use Rattle.ndarray.proofs.algebra.SummedAreas.{rows-and_columns}
use Rattle.ndarray.proofs.algebra.Totals.{value_of}
use Rattle.ndarray.proofs.boxes.Orders.{row_order-is}
use Rattle.ndarray.proofs.cells.Cells.{array_by-whole, cell-Some, cell-outside, same_grid}
use Rattle.ndarray.proofs.convolution.Full.{full_length-some}
use Rattle.ndarray.proofs.convolution.FiltersOnAxes.{at, filters-on_axes_compose, full-at}
use Rattle.ndarray.proofs.convolution.LinearFilters.{total-one_place}

module _ {C : Type 0} (plus times : CommutativeMonoid C)
    (distributes : (x y z : C) → times.op x (plus.op y z) ≡ plus.op (times.op x y) (times.op x z)) (absorbs : (x : C) → times.op plus.unit x ≡ plus.unit) where
  module _ (column row kernel : Grid C) (whole_column : IsGrid column) (whole_row : IsGrid row) (whole : IsGrid kernel) (parts : IsColumnTimesRow plus times column row kernel)
      (m n : ℕ) (lengths : kernel.lengths ≡ m ∷ n ∷ []) (some_rows : 1 ≤ m) (some_columns : 1 ≤ n) where
    column_lengths : column.lengths ≡ m ∷ 1 ∷ []
    column_lengths = parts.column_lengths ∙ ap (λ ns. get_or ns 0 0 ∷ 1 ∷ []) lengths

    row_lengths : row.lengths ≡ 1 ∷ n ∷ []
    row_lengths = parts.row_lengths ∙ ap (λ ns. 1 ∷ get_or ns 1 0 ∷ []) lengths

    abbrev full : Grid C
    full = full_convolution_of plus times column row

    full_same : full.lengths ≡ m ∷ n ∷ []
    full_same =
        let tall : m + 1 - 1 ≡ m = omega arith in
        let wide : 1 + n - 1 ≡ n = omega arith in
        ap (λ ns. full_lengths ns row.lengths) column_lengths
        ∙ (ap (full_lengths (m ∷ 1 ∷ [])) row_lengths
        ∙ (ap (λ k. k ∷ full_length 1 n ∷ []) (full_length-some m 1 some_rows (omega arith) ∙ tall)
        ∙ ap (λ k. m ∷ k ∷ []) (full_length-some 1 n (omega arith) some_columns ∙ wide)))

    module _ (i j : ℕ) (low : i < m) (within : j < n) where
      abbrev product : List ℕ → C
      product is = times.op (at plus times distributes absorbs column is) (at plus times distributes absorbs row (differences (i ∷ j ∷ []) is))

      -- all other products are neutral
      others : (is : List ℕ) → InBox (suc i ∷ suc j ∷ []) is → is ≢ i ∷ 0 ∷ [] → product is ≡ plus.unit
      others [] b other = absurd b
      others (p ∷ []) b other = absurd b.1
      others (p ∷ q ∷ k ∷ is) b other = absurd b.1.1
      others (p ∷ suc q ∷ []) b other =
          ap (λ o. times.op (value_of plus (λ x. x) o) (at plus times distributes absorbs row (differences (i ∷ j ∷ []) (p ∷ suc q ∷ []))))
          (cell-outside column (p ∷ suc q ∷ []) (λ c. let d : InBox (m ∷ 1 ∷ []) (p ∷ suc q ∷ []) = subst (λ ns. InBox ns (p ∷ suc q ∷ [])) column_lengths c in let e = d.1.0 in omega (arith, e)))
          ∙ absorbs (at plus times distributes absorbs row (differences (i ∷ j ∷ []) (p ∷ suc q ∷ [])))
      others (p ∷ zero ∷ []) b other = elim (cases_lt p i) [
        | inl lt ↦
            ap (λ o. times.op (at plus times distributes absorbs column (p ∷ 0 ∷ [])) (value_of plus (λ x. x) o))
            (cell-outside row ((i - p) ∷ (j - 0) ∷ []) (λ c. let d : InBox (1 ∷ n ∷ []) ((i - p) ∷ (j - 0) ∷ []) = subst (λ ns. InBox ns ((i - p) ∷ (j - 0) ∷ [])) row_lengths c in let e = d.0 in omega (arith, e, lt)))
            ∙ (times.commutes (at plus times distributes absorbs column (p ∷ 0 ∷ [])) plus.unit ∙ absorbs (at plus times distributes absorbs column (p ∷ 0 ∷ [])))
        | inr ge ↦ absurd (other (let l = b.0 in let same : p ≡ i = omega (arith, ge, l) in ap (λ k. k ∷ 0 ∷ []) same))
      ]

      product-of_both : at plus times distributes absorbs full (i ∷ j ∷ []) ≡ at plus times distributes absorbs kernel (i ∷ j ∷ [])
      product-of_both =
          let (x, first) = cell-Some column whole_column (i ∷ 0 ∷ []) (subst (λ ns. InBox ns (i ∷ 0 ∷ [])) (sym column_lengths) (low, (omega arith, tt))) in
          let (y, second) = cell-Some row whole_row (0 ∷ j ∷ []) (subst (λ ns. InBox ns (0 ∷ j ∷ [])) (sym row_lengths) (omega arith, (within, tt))) in
          let (z, here) = cell-Some kernel whole (i ∷ j ∷ []) (subst (λ ns. InBox ns (i ∷ j ∷ [])) (sym lengths) (low, (within, tt))) in
          let none : i - i ≡ 0 = omega arith in
          let all : j - 0 ≡ j = omega arith in
          full-at plus times distributes absorbs column row (i ∷ j ∷ []) (subst (λ ns. InBox ns (i ∷ j ∷ [])) (sym full_same) (low, (within, tt)))
          ∙ (total-one_place plus product (row_order (suc i ∷ suc j ∷ [])) (i ∷ 0 ∷ []) (row_order-is (suc i ∷ suc j ∷ [])).rising ((row_order-is (suc i ∷ suc j ∷ [])).whole (i ∷ 0 ∷ []) (omega arith, (omega arith, tt)))
          (λ is found other. others is (All-contains (InBox (suc i ∷ suc j ∷ [])) (row_order (suc i ∷ suc j ∷ [])) is (row_order-is (suc i ∷ suc j ∷ [])).within found) other)
          ∙ (ap (λ k. times.op (at plus times distributes absorbs column (i ∷ 0 ∷ [])) (at plus times distributes absorbs row (k ∷ (j - 0) ∷ []))) none
          ∙ (ap (λ k. times.op (at plus times distributes absorbs column (i ∷ 0 ∷ [])) (at plus times distributes absorbs row (0 ∷ k ∷ []))) all
          ∙ (ap (λ o. times.op (value_of plus (λ x. x) o) (at plus times distributes absorbs row (0 ∷ j ∷ []))) first
          ∙ (ap (λ o. times.op x (value_of plus (λ x. x) o)) second
          ∙ (sym (parts.cells i j x y z first second here) ∙ sym (ap (value_of plus (λ x. x)) here)))))))

    -- the full convolution of the column and the row is the kernel
    pub outer-product : full ≡ kernel
    outer-product =
        same_grid full kernel (array_by-whole full.lengths _) whole (full_same ∙ sym lengths) (λ is b. each is (subst (λ ns. InBox ns is) full_same b))
      where
        value-same : (is : List ℕ) → InBox (m ∷ n ∷ []) is → at plus times distributes absorbs full is ≡ at plus times distributes absorbs kernel is → cell full is ≡ cell kernel is
        value-same is b e =
            let (x, first) = cell-Some full (array_by-whole full.lengths _) is (subst (λ ns. InBox ns is) (sym full_same) b) in
            let (y, second) = cell-Some kernel whole is (subst (λ ns. InBox ns is) (sym lengths) b) in
            first ∙ (ap Some (sym (ap (value_of plus (λ x. x)) first) ∙ (e ∙ ap (value_of plus (λ x. x)) second)) ∙ sym second)

        each : (is : List ℕ) → InBox (m ∷ n ∷ []) is → cell full is ≡ cell kernel is
        each [] b = absurd b
        each (i ∷ []) b = absurd b.1
        each (i ∷ j ∷ []) b = value-same (i ∷ j ∷ []) b (product-of_both i j b.0 b.1.0)
        each (i ∷ j ∷ k ∷ is) b = absurd b.1.1

  pub filters-separate : FiltersSeparate plus times
  filters-separate a column row kernel whole_a whole_column whole_row whole positive parts =
      let m : ℕ = get_or kernel.lengths 0 0 in
      let n : ℕ = get_or kernel.lengths 1 0 in
      let lengths : kernel.lengths ≡ m ∷ n ∷ [] = rows-and_columns kernel.lengths parts.axes in
      let two : length a.lengths ≡ 2 = sym positive.as_many ∙ parts.axes in
      let axes = parts.axes in
      let some_rows : 1 ≤ m = positive.positive 0 0 (omega (arith, axes)) in
      let some_columns : 1 ≤ n = positive.positive 1 0 (omega (arith, axes)) in
      let one : 1 ≤ 1 = omega arith in
      ap (valid_convolution_by plus times (λ x. x) a) (sym (outer-product column row kernel whole_column whole_row whole parts m n lengths some_rows some_columns))
      ∙ sym (filters-on_axes_compose plus times distributes absorbs a column row whole_a whole_column whole_row
      (record {
        as_many = ap length parts.column_lengths ∙ sym two;
        positive = subst (λ ns. All (λ c. 1 ≤ c) ns) (sym parts.column_lengths) (All-cons (λ c. 1 ≤ c) m (1 ∷ []) some_rows (All-cons (λ c. 1 ≤ c) 1 [] one (All-nil (λ c. 1 ≤ c))));
      })
      (record {
        as_many = ap length parts.row_lengths ∙ sym two;
        positive = subst (λ ns. All (λ c. 1 ≤ c) ns) (sym parts.row_lengths) (All-cons (λ c. 1 ≤ c) 1 (n ∷ []) one (All-cons (λ c. 1 ≤ c) n [] some_columns (All-nil (λ c. 1 ≤ c))));
      }))
