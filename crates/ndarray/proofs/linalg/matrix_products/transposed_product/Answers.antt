use Rattle.std.proofs.Common.{◌<◌, ◌^◌, [], ◌∷◌, get_or, refl, subst, sym}
use Rattle.ndarray.specs.Limits.{IsWithinLimit}
use Rattle.ndarray.specs.Matrices.{transpose}
use Rattle.ndarray.specs.Products.{matrix_of, product_of}
use Rattle.ndarray.proofs.boxes.Sizes.{nonzero-reverse}
use Rattle.ndarray.proofs.callers.SameMatrices.{made-as, transpose-matrix}
use Rattle.ndarray.proofs.cells.RowProducts.{made-transposed, transposed-product, transposed-sums}
use Rattle.ndarray.proofs.linalg.matrix_products.transposed_product.Goals as goal

pub product_by_rows-requires-clause-limit : goal.product_by_rows-requires-clause-limit
product_by_rows-requires-clause-limit g c κs within =
    let v = g.A.Valued in
    let m = get_or c.args.left.now.lengths 0 0 in
    let n = get_or c.args.right.now.lengths 1 0 in
    let rows = (transpose-matrix c.args.right.now c.t.result c.t.ensures.axes c.t.ensures.value v c.t.ensures.whole).rows in
    let columns = (transpose-matrix c.args.left.now c.t-2.result c.t-2.ensures.axes c.t-2.ensures.value v c.t-2.ensures.whole).columns in
    let turned : IsWithinLimit (n ∷ m ∷ []) = subst (λ k. k < 2 ^ 63) (sym (nonzero-reverse (m ∷ n ∷ []))) c.requires.limit in
    subst (λ k. IsWithinLimit (k ∷ get_or c.t-2.result.lengths 1 0 ∷ [])) (sym rows) (subst (λ k. IsWithinLimit (n ∷ k ∷ [])) (sym columns) turned)

pub product_by_rows-requires-clause-sums : goal.product_by_rows-requires-clause-sums
product_by_rows-requires-clause-sums g c κs within =
    let v = g.A.Valued in
    let a = c.args.left.now in
    let b = c.args.right.now in
    transposed-sums v (matrix_of v a) (matrix_of v b) c.requires.inner (matrix_of v c.t.result) (matrix_of v c.t-2.result)
    (transpose-matrix b c.t.result c.t.ensures.axes c.t.ensures.value v c.t.ensures.whole) (transpose-matrix a c.t-2.result c.t-2.ensures.axes c.t-2.ensures.value v c.t-2.ensures.whole) c.requires.sums

pub returns : goal.returns
returns g c =
    let v = g.A.Valued in
    let a = c.args.left.now in
    let b = c.args.right.now in
    let p = product_of v (matrix_of v a) (matrix_of v b) in
    let turned = transposed-product v (matrix_of v a) (matrix_of v b) c.requires.inner (matrix_of v c.t.result) (matrix_of v c.t-2.result)
    (transpose-matrix b c.t.result c.t.ensures.axes c.t.ensures.value v c.t.ensures.whole) (transpose-matrix a c.t-2.result c.t-2.ensures.axes c.t-2.ensures.value v c.t-2.ensures.whole) in
    let made = made-as v (product_of v (matrix_of v c.t.result) (matrix_of v c.t-2.result)) (transpose p) turned c.in_ok-transposed.transposed c.in_ok-transposed.ensures.made in
    record {
      made = made-transposed v (transpose p) c.in_ok-transposed.transposed c.reversed_axes.result made c.reversed_axes.ensures.value c.reversed_axes.ensures.whole;
      empty = λ none. refl;
    }
