use Rattle.ndarray.proofs.Common.{◌∙◌, ◌∷◌, [], get_or, pos, refl, subst, InBox, cell-inside, inner-matrices, matrix_of, i64_values}
use Rattle.ndarray_examples.proofs.LowerMatrices.{lower-made}
use Rattle.ndarray_examples.proofs.matrix_laws.product_of_lowers.Goals as goal

pub returns-clause-lower : goal.returns-clause-lower
returns-clause-lower g c = λ i j z at above.
    let left = c.in_ok-left.ensures in
    let right = c.in_ok-right.ensures in
    let made = c.in_ok-product.ensures.made in
    let inside : InBox (get_or c.in_ok-left.left.lengths 0 0 ∷ get_or c.in_ok-right.right.lengths 1 0 ∷ []) (i ∷ j ∷ []) = subst (λ ns. InBox ns (i ∷ j ∷ [])) made.lengths (cell-inside c.in_ok-product.product (i ∷ j ∷ []) z at) in
    made.cells (i ∷ j ∷ []) z at
    ∙ c.lower_products.ensures (matrix_of i64_values c.in_ok-left.left) (matrix_of i64_values c.in_ok-right.right) (inner-matrices _ _ left.axes right.axes (c.if-not-entries_fit.ensures.exact.0 refl).0.inner)
    (lower-made i64_values (pos 0) refl c.args.a.now c.in_ok-left.left c.raw_dim.ensures.axes left.cells left.lengths left.whole)
    (lower-made i64_values (pos 0) refl c.args.b.now c.in_ok-right.right c.raw_dim-2.ensures.axes right.cells right.lengths right.whole)
    i j inside.0 inside.1.0 above
