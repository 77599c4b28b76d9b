use Rattle.std.proofs.Common.{sym}
use Rattle.ndarray.specs.linalg.ProductTiles.{entries_along}
use Rattle.ndarray.specs.Products.{matrix_entries, matrix_of, product_of}
use Rattle.ndarray.proofs.cells.GeneralProducts.{entries-by_columns, turned-columns, turned-inner, turned-rows, turned-sums}
use Rattle.ndarray.proofs.cells.ProductTiles.{accumulates-same, can-same}
use Rattle.ndarray.proofs.linalg.general.accumulate_by_columns.Goals as goal

pub accumulate_matrix-requires-clause-inner : goal.accumulate_matrix-requires-clause-inner
accumulate_matrix-requires-clause-inner g c κs within = turned-inner g.A.Valued c.args.left.now c.args.right.now c.args.array.now c.t-2.result c.t.result c.t-2.ensures.axes c.t-2.ensures.value c.t-2.ensures.whole c.t.ensures.axes c.t.ensures.value c.t.ensures.whole c.requires.can.shapes

pub accumulate_matrix-requires-clause-rows : goal.accumulate_matrix-requires-clause-rows
accumulate_matrix-requires-clause-rows g c κs within = turned-rows g.A.Valued c.args.left.now c.args.right.now c.args.array.now c.t-2.result c.t.result c.t-2.ensures.axes c.t-2.ensures.value c.t-2.ensures.whole c.t.ensures.axes c.t.ensures.value c.t.ensures.whole c.requires.can.shapes

pub accumulate_matrix-requires-clause-columns : goal.accumulate_matrix-requires-clause-columns
accumulate_matrix-requires-clause-columns g c κs within = turned-columns g.A.Valued c.args.left.now c.args.right.now c.args.array.now c.t-2.result c.t.result c.t-2.ensures.axes c.t-2.ensures.value c.t-2.ensures.whole c.t.ensures.axes c.t.ensures.value c.t.ensures.whole c.requires.can.shapes

pub accumulate_matrix-requires-clause-sums : goal.accumulate_matrix-requires-clause-sums
accumulate_matrix-requires-clause-sums g c κs within = turned-sums g.A.Valued c.args.left.now c.args.right.now c.args.array.now c.t-2.result c.t.result c.t-2.ensures.axes c.t-2.ensures.value c.t-2.ensures.whole c.t.ensures.axes c.t.ensures.value c.t.ensures.whole c.requires.can.shapes c.requires.can.sums

pub accumulate_matrix-requires-clause-scaled : goal.accumulate_matrix-requires-clause-scaled
accumulate_matrix-requires-clause-scaled g c κs within =
    let v = g.A.Valued in
    can-same v c.args.alpha c.args.beta (matrix_entries (product_of v (matrix_of v c.args.left.now) (matrix_of v c.args.right.now))) (entries_along 0 0 (product_of v (matrix_of v c.t.result) (matrix_of v c.t-2.result))) c.args.array.now
    (entries-by_columns v c.args.left.now c.args.right.now c.args.array.now c.t-2.result c.t.result c.t-2.ensures.axes c.t-2.ensures.value c.t-2.ensures.whole c.t.ensures.axes c.t.ensures.value c.t.ensures.whole c.requires.can.shapes) c.requires.can.scaled

pub returns : goal.returns
returns g c =
    let v = g.A.Valued in
    accumulates-same v c.args.alpha c.args.beta (entries_along 0 0 (product_of v (matrix_of v c.t.result) (matrix_of v c.t-2.result))) (matrix_entries (product_of v (matrix_of v c.args.left.now) (matrix_of v c.args.right.now))) c.args.array.now c.accumulate_matrix.new.array
    (λ is inside. sym (entries-by_columns v c.args.left.now c.args.right.now c.args.array.now c.t-2.result c.t.result c.t-2.ensures.axes c.t-2.ensures.value c.t-2.ensures.whole c.t.ensures.axes c.t.ensures.value c.t.ensures.whole c.requires.can.shapes is inside)) c.accumulate_matrix.ensures
