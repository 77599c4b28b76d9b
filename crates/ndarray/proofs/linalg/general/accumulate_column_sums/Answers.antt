use Rattle.std.proofs.Common.{◌∙◌, [], ◌∷◌, ap, arith, length, subst, sym}
use Rattle.ndarray.specs.Index.{InBox}
use Rattle.ndarray.specs.Products.{CanAddScaled, column_entries, column_of, matrix_of, product_of}
use Rattle.ndarray.proofs.boxes.ProductShapes.{inner-two, lengths-two_one}
use Rattle.ndarray.proofs.cells.Cells.{cell-inside}
use Rattle.ndarray.proofs.cells.Products.{accumulates-of, product-of_views, sums-of_views}
use Rattle.ndarray.proofs.linalg.general.accumulate_column_sums.Goals as goal

pub accumulate-requires-after_bounds : goal.accumulate-requires-after_bounds
accumulate-requires-after_bounds g c κs within x old at =
    let v = g.A.Valued in
    let box = subst (λ ns. InBox ns (x ∷ [])) (c.requires.shapes.product ∙ lengths-two_one c.args.left.now.lengths c.args.x.now.lengths c.view.ensures.axes c.view-2.ensures.axes) (cell-inside c.args.array.now (x ∷ []) old at) in (
      (
        sums-of_views v (matrix_of v) (column_of v) c.args.left.now c.args.x.now _ _ c.view.ensures.same c.view-2.ensures.same x 0 (inner-two c.args.left.now.lengths c.args.x.now.lengths c.view.ensures.axes c.requires.shapes.inner) box.0 (omega arith) c.requires.sums,
        ap (λ w. length w.lengths) c.view.ensures.same ∙ c.view.ensures.axes,
        ap (λ w. length w.lengths) c.view-2.ensures.same ∙ c.view-2.ensures.axes,
        c.view-2.ensures.whole,
      ),
      λ s k. subst (CanAddScaled v (v.meaning c.args.alpha) (v.meaning c.args.beta) (v.meaning old)) (sym (k ∙ product-of_views v (matrix_of v) (column_of v) c.args.left.now c.args.x.now _ _ c.view.ensures.same c.view-2.ensures.same x 0)) (c.requires.scaled (x ∷ []) old at),
    )

pub returns : goal.returns
returns g c =
    let v = g.A.Valued in
    accumulates-of v _ _ (column_entries (product_of v (matrix_of v c.args.left.now) (column_of v c.args.x.now))) c.args.alpha c.args.beta _ _
    (λ t s k. k ∙ product-of_views v (matrix_of v) (column_of v) c.args.left.now c.args.x.now _ _ c.view.ensures.same c.view-2.ensures.same t 0)
    c.accumulate.ensures
