use Rattle.ndarray.proofs.Common.{◌∙◌, refl, inner-matrices, made-as, matrix_of, product-same, same-back, same-then, sym, transpose, transpose-matrix, i64_values}
use Rattle.ndarray_examples.proofs.matrix_laws.product_transposed.Goals as goal

pub returns-clause-product : goal.returns-clause-product
returns-clause-product g c =
    let a = matrix_of i64_values c.args.a.now in
    let b = matrix_of i64_values c.args.b.now in
    let left = c.t-left in
    let right = c.t-right in
    let inner = inner-matrices left.result.lengths right.result.lengths left.ensures.axes right.ensures.axes (c.if-not-entries_fit.ensures.exact.0 refl).0.inner in
    let b_same = transpose-matrix c.args.b.now left.result left.ensures.axes left.ensures.value i64_values left.ensures.whole in
    let a_same = transpose-matrix c.args.a.now right.result right.ensures.axes right.ensures.value i64_values right.ensures.whole in
    let same = product-same i64_values (matrix_of i64_values left.result) (matrix_of i64_values right.result) (transpose b) (transpose a) b_same a_same inner in
    made-as i64_values _ _ (same-then _ _ _ same (same-back _ _ (c.mat_transpose.ensures a b (sym a_same.rows ∙ (sym inner ∙ b_same.columns))))) c.in_ok-product.product c.in_ok-product.ensures.made
