use Rattle.ndarray.proofs.Common.{◌≡◌, ◌∙◌, ◌-◌, ℤ, Option, None, Some, ap, get_or, length, refl, subst, sym, ◌↔◌, FitsSigned, IfSome, IsSome, w64, HasColumn, Grid, IsWithinLimit, IsSameMatrix, ShapesMultiply, column_of, matrix_of, product_of, HasMagnitudesInRange, if_ok-both, matrix-by_vector, column-as, magnitudes-same, made-column, product-same, same-back, same-self, i64_values}
use Rattle.ndarray_examples.specs.RangeTests.{MayApplyTwice, applied, applied_twice}
use Rattle.ndarray_examples.proofs.range_tests.apply_twice.Goals as goal

-- a matrix a times a vector was made, once
module _ (a x once : Grid ℤ) (two : length a.lengths ≡ 2) (made : HasColumn i64_values (applied a x) once) where
  abbrev MayMultiply : Type 0
  MayMultiply = ShapesMultiply a.lengths once.lengths × HasMagnitudesInRange (FitsSigned w64) (matrix_of i64_values a) (column_of i64_values once)

  same : IsSameMatrix (column_of i64_values once) (applied a x)
  same = made-column i64_values (applied a x) refl once made

  one : length once.lengths ≡ 1
  one = ap length made.lengths

  rows : get_or once.lengths 0 0 ≡ get_or a.lengths 0 0
  rows = ap (λ ns. get_or ns 0 0) made.lengths

  inner : ShapesMultiply a.lengths once.lengths → get_or a.lengths 1 0 ≡ get_or once.lengths 0 0
  inner s = ap (λ n. get_or a.lengths (n - 1) 0) (sym two) ∙ (s.inner ∙ ap (λ n. get_or once.lengths (n - 2) 0) one)

  may-multiply : IsWithinLimit a.lengths → IsWithinLimit once.lengths → MayApplyTwice a x → MayMultiply
  may-multiply left right m =
      let square : get_or a.lengths 1 0 ≡ get_or once.lengths 0 0 = sym m.square ∙ sym rows in (
        matrix-by_vector a.lengths once.lengths two one square left right,
        magnitudes-same (FitsSigned w64) (matrix_of i64_values a) (column_of i64_values once) (matrix_of i64_values a) (applied a x) (same-self (matrix_of i64_values a)) same square m.twice,
      )

  may-apply : ShapesMultiply a.lengths x.lengths → HasMagnitudesInRange (FitsSigned w64) (matrix_of i64_values a) (column_of i64_values x) → MayMultiply → MayApplyTwice a x
  may-apply shapes once_fits (s, t) = record {
    square = sym (inner s ∙ rows);
    shapes = shapes;
    once = once_fits;
    twice = magnitudes-same (FitsSigned w64) (matrix_of i64_values a) (applied a x) (matrix_of i64_values a) (column_of i64_values once) (same-self (matrix_of i64_values a)) (same-back _ _ same) (inner s ∙ rows) t;
  }

  twice : (o : Option (Grid ℤ)) → IsSome o ↔ MayMultiply → IfSome o (HasColumn i64_values (product_of i64_values (matrix_of i64_values a) (column_of i64_values once))) → IfSome o (HasColumn i64_values (applied_twice a x))
  twice None when p = tt
  twice (Some r) when p =
      let s = (when.0 refl).0 in
      column-as i64_values _ (applied_twice a x) refl
      (product-same i64_values (matrix_of i64_values a) (column_of i64_values once) (matrix_of i64_values a) (applied a x) (same-self (matrix_of i64_values a)) same (inner s))
      r p

pub returns-clause-when : goal.returns-clause-when
returns-clause-when c =
    let a = c.args.a.now in
    let x = c.args.x.now in
    let made : HasColumn i64_values (applied a x) c.in-Some.once = subst (λ o. IfSome o (HasColumn i64_values (applied a x))) c.in-Some.is c.in_ok-once.ensures.product in
    let first = c.in_ok-once.ensures.when.0 (subst IsSome (sym c.in-Some.is) refl) in
    if_ok-both c.checked_matrix_times_vector-2.result _ _ _
    (λ o when p. (
      λ some. may-apply a x c.in-Some.once c.raw_dim.ensures.axes made first.0 first.1 (when.0 some),
      λ m. when.1 (may-multiply a x c.in-Some.once c.raw_dim.ensures.axes made c.raw_dim.ensures.limit c.raw_dim-2.ensures.limit m),
    ))
    c.checked_matrix_times_vector-2.ensures.when c.checked_matrix_times_vector-2.ensures.when

pub returns-clause-product : goal.returns-clause-product
returns-clause-product c =
    let a = c.args.a.now in
    let x = c.args.x.now in
    let made : HasColumn i64_values (applied a x) c.in-Some.once = subst (λ o. IfSome o (HasColumn i64_values (applied a x))) c.in-Some.is c.in_ok-once.ensures.product in
    if_ok-both c.checked_matrix_times_vector-2.result _ _ _ (twice a x c.in-Some.once c.raw_dim.ensures.axes made)
    c.checked_matrix_times_vector-2.ensures.when c.checked_matrix_times_vector-2.ensures.product
