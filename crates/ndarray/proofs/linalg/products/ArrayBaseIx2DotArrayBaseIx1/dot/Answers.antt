use Rattle.ndarray.proofs.cells.RowProducts.{column-can_sum, column-made}
use Rattle.ndarray.proofs.linalg.products.ArrayBaseIx2DotArrayBaseIx1.dot.Goals as goal

pub row_product-requires-clause-can : goal.row_product-requires-clause-can
row_product-requires-clause-can g c κs within =
    column-can_sum g.A.Valued c.args.self.now c.args.rhs.now c.t.result c.view.result c.t.ensures.axes c.t.ensures.value c.t.ensures.whole c.view.ensures.axes c.view.ensures.same c.view.ensures.whole c.requires.0 c.requires.1

pub returns : goal.returns
returns g c =
    column-made g.A.Valued c.args.self.now c.args.rhs.now c.t.result c.view.result c.t.ensures.axes c.t.ensures.value c.t.ensures.whole c.view.ensures.axes c.view.ensures.same c.view.ensures.whole c.requires.0 c.row_product.result c.row_product.ensures
