use Rattle.std.proofs.Common.{◌∙◌, subst, sym}
use Rattle.ndarray.specs.Products.{ShapesMultiply}
use Rattle.ndarray.proofs.linalg.products.dot_ok.Goals as goal

pub returns : goal.returns
returns g c =
    let left = c.slice.ensures.value ∙ c.raw_dim-left.ensures.lengths in
    let right = c.slice-2.ensures.value ∙ c.raw_dim-right.ensures.lengths in (
      λ t. subst (λ l. ShapesMultiply l c.args.right.now.lengths) left (subst (λ l. ShapesMultiply c.slice.result.now l) right (c.shapes_multiply.ensures.0 t)),
      λ s. c.shapes_multiply.ensures.1 (subst (λ l. ShapesMultiply l c.slice-2.result.now) (sym left) (subst (λ l. ShapesMultiply c.args.left.now.lengths l) (sym right) s)),
    )
