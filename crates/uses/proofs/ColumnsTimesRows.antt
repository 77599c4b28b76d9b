-- A kernel that is a column of weights times a row of weights.
use Rattle.std.proofs.Common.{insert}
use Rattle.ndarray.proofs.Common.{◌≡◌, ◌∙◌, ◌≤◌, ◌*ℤ◌, ◌↔◌, ℕ, ℤ, List, [], ◌∷◌, Option, None, Some, ap, arith, length, pos, refl, slice_index, subst, sym, All, All-cons, All-head, All-nil, All-tail, IfSome, IsSome, Grid, IsGrid, array_by-at, array_by-whole, axis_inserted, axis_inserted-cell, axis_inserted-whole, cell, cell-inside, int_products, int_sums, one-length, value_or}
use Rattle.ndarray.specs.FilterLaws.{FiltersSeparate, IsColumnTimesRow}
use Rattle.ndarray.specs.Subviews.{ArePositive}
use Rattle.uses.specs.Smooth.{CanFilterByParts, CanFilterImage, column_times_row, filtered_image, weight}

module _ (column row : Grid ℤ) (one : length column.lengths ≡ 1) (one_too : length row.lengths ≡ 1) (whole : IsGrid column) (whole_too : IsGrid row) where
  abbrev m : ℕ
  m = slice_index column.lengths 0

  abbrev n : ℕ
  n = slice_index row.lengths 0

  abbrev kernel : Grid ℤ
  kernel = column_times_row column row

  kernel-whole : IsGrid kernel
  kernel-whole = array_by-whole (m ∷ n ∷ []) (λ is. weight column (slice_index is 0) *ℤ weight row (slice_index is 1))

  column-lengths : (axis_inserted column 1).lengths ≡ m ∷ 1 ∷ []
  column-lengths = ap (λ ns. insert ns 1 1) (one-length column.lengths one)

  row-lengths : (axis_inserted row 0).lengths ≡ 1 ∷ n ∷ []
  row-lengths = ap (λ ns. insert ns 0 1) (one-length row.lengths one_too)

  parts-multiply : IsColumnTimesRow int_sums int_products (axis_inserted column 1) (axis_inserted row 0) kernel
  parts-multiply = record {
    column_lengths = column-lengths;
    row_lengths = row-lengths;
    axes = refl;
    cells = λ i j x y z left right here.
        let of_column : cell column (i ∷ []) ≡ Some x = sym (axis_inserted-cell column whole 1 (omega (arith, one)) (i ∷ 0 ∷ []) (cell-inside (axis_inserted column 1) (i ∷ 0 ∷ []) x left)) ∙ left in
        let of_row : cell row (j ∷ []) ≡ Some y = sym (axis_inserted-cell row whole_too 0 (omega (arith, one_too)) (0 ∷ j ∷ []) (cell-inside (axis_inserted row 0) (0 ∷ j ∷ []) y right)) ∙ right in
        array_by-at (m ∷ n ∷ []) (λ is. weight column (slice_index is 0) *ℤ weight row (slice_index is 1)) kernel (i ∷ j ∷ []) z refl (cell-inside kernel (i ∷ j ∷ []) z here) here
        ∙ (ap (λ o. value_or (λ v. v) (pos 0) o *ℤ weight row j) of_column ∙ ap (λ o. x *ℤ value_or (λ v. v) (pos 0) o) of_row);
  }

  -- what was made by the column, and then by the row, seen as tables
  module _ (image upright across once : Grid ℤ) (two : length image.lengths ≡ 2) (whole_image : IsGrid image) (is_column : upright ≡ axis_inserted column 1) (is_row : across ≡ axis_inserted row 0)
      (first : CanFilterImage image upright) (is_once : once ≡ filtered_image image upright) where
    sides : CanFilterImage once across → ArePositive image.lengths kernel.lengths
    sides second = record {
      as_many = sym two;
      positive = All-cons (λ c. 1 ≤ c) m (n ∷ []) (All-head (λ c. 1 ≤ c) m (1 ∷ []) (subst (All (λ c. 1 ≤ c)) (ap (λ g. g.lengths) is_column ∙ column-lengths) first.sides.positive))
          (All-cons (λ c. 1 ≤ c) n [] (All-head (λ c. 1 ≤ c) n [] (All-tail (λ c. 1 ≤ c) 1 (n ∷ []) (subst (All (λ c. 1 ≤ c)) (ap (λ g. g.lengths) is_row ∙ row-lengths) second.sides.positive))) (All-nil (λ c. 1 ≤ c)));
    }

    pub in-turn : (made : Option (Grid ℤ)) → (IsSome made ↔ CanFilterImage once across) → IsSome made ↔ CanFilterByParts image column row
    in-turn made when = (
      λ some. record {
        first = subst (CanFilterImage image) is_column first;
        second = subst (λ k. CanFilterImage (filtered_image image (axis_inserted column 1)) k) is_row (subst (λ w. CanFilterImage w across) (is_once ∙ ap (filtered_image image) is_column) (when.0 some));
      },
      λ both. when.1 (subst (λ w. CanFilterImage w across) (sym (is_once ∙ ap (filtered_image image) is_column)) (subst (λ k. CanFilterImage (filtered_image image (axis_inserted column 1)) k) (sym is_row) both.second)),
    )

    pub by-kernel : FiltersSeparate int_sums int_products → (made : Option (Grid ℤ)) → (IsSome made ↔ CanFilterImage once across) → IfSome made (λ r. r ≡ filtered_image once across) → IfSome made (λ r. r ≡ filtered_image image kernel)
    by-kernel separate None when is = is
    by-kernel separate (Some r) when is =
        is
        ∙ (ap (λ w. filtered_image w across) (is_once ∙ ap (filtered_image image) is_column)
        ∙ (ap (filtered_image (filtered_image image (axis_inserted column 1))) is_row
        ∙ sym (separate image (axis_inserted column 1) (axis_inserted row 0) kernel whole_image (axis_inserted-whole column whole 1 (omega (arith, one))) (axis_inserted-whole row whole_too 0 (omega (arith, one_too))) kernel-whole (sides (when.0 refl)) parts-multiply)))
