use Rattle.ndarray.proofs.Common.{◌∙◌, arith}
use Rattle.ndarray_examples.proofs.PairedProducts.{products-88}
use Rattle.ndarray_examples.proofs.walks.products_of_two_layouts.Goals as goal

pub sum_of_products-requires-clause-fits : goal.sum_of_products-requires-clause-fits
sum_of_products-requires-clause-fits c =
    let t = products-88 _ _ _ (c.in-Ok.ensures.lengths ∙ c.f.ensures.lengths) c.in-Ok-from_shape.ensures.lengths c.f.ensures.order c.in-Ok.ensures.cells c.in-Ok-from_shape.ensures.cells in
    omega arith

pub returns : goal.returns
returns c = c.sum_of_products.ensures
    ∙ products-88 _ _ _ (c.in-Ok.ensures.lengths ∙ c.f.ensures.lengths) c.in-Ok-from_shape.ensures.lengths c.f.ensures.order c.in-Ok.ensures.cells c.in-Ok-from_shape.ensures.cells
