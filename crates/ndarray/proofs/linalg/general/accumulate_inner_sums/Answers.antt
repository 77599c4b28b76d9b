use Rattle.std.proofs.Common.{◌∙◌, [], ◌∷◌, ap, length, subst, sym}
use Rattle.ndarray.specs.Index.{InBox}
use Rattle.ndarray.specs.Products.{CanAddScaled, matrix_entries, matrix_of, product_of}
use Rattle.ndarray.proofs.boxes.ProductShapes.{inner-two, lengths-two_two}
use Rattle.ndarray.proofs.cells.Cells.{cell-inside}
use Rattle.ndarray.proofs.cells.Products.{accumulates-of, product-of_views, sums-of_views}
use Rattle.ndarray.proofs.linalg.general.accumulate_inner_sums.Goals as goal

pub accumulate-requires-after_bounds : goal.accumulate-requires-after_bounds
accumulate-requires-after_bounds g c κs within x old at =
    let v = g.A.Valued in
    let box = subst (λ ns. InBox ns (x.0 ∷ x.1 ∷ [])) (c.requires.shapes.product ∙ lengths-two_two c.args.left.now.lengths c.args.right.now.lengths c.view.ensures.axes c.view-2.ensures.axes) (cell-inside c.args.array.now (x.0 ∷ x.1 ∷ []) old at) in (
      (
        sums-of_views v (matrix_of v) (matrix_of v) c.args.left.now c.args.right.now _ _ c.view.ensures.same c.view-2.ensures.same x.0 x.1 (inner-two c.args.left.now.lengths c.args.right.now.lengths c.view.ensures.axes c.requires.shapes.inner) box.0 box.1.0 c.requires.sums,
        ap (λ w. length w.lengths) c.view.ensures.same ∙ c.view.ensures.axes,
        ap (λ w. length w.lengths) c.view-2.ensures.same ∙ c.view-2.ensures.axes,
      ),
      λ s k. subst (CanAddScaled v (v.meaning c.args.alpha) (v.meaning c.args.beta) (v.meaning old)) (sym (k ∙ product-of_views v (matrix_of v) (matrix_of v) c.args.left.now c.args.right.now _ _ c.view.ensures.same c.view-2.ensures.same x.0 x.1)) (c.requires.scaled (x.0 ∷ x.1 ∷ []) old at),
    )

pub returns : goal.returns
returns g c =
    let v = g.A.Valued in
    accumulates-of v _ _ (matrix_entries (product_of v (matrix_of v c.args.left.now) (matrix_of v c.args.right.now))) c.args.alpha c.args.beta _ _
    (λ t s k. k ∙ product-of_views v (matrix_of v) (matrix_of v) c.args.left.now c.args.right.now _ _ c.view.ensures.same c.view-2.ensures.same t.0 t.1)
    c.accumulate.ensures
