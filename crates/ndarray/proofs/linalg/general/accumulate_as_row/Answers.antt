use Rattle.std.proofs.Common.{sym}
use Rattle.ndarray.specs.linalg.ProductTiles.{row_along}
use Rattle.ndarray.specs.Products.{column_entries, column_of, matrix_of, product_of, row_of}
use Rattle.ndarray.proofs.cells.GeneralProducts.{as_row-can_sum, as_row-columns, entries-as_row}
use Rattle.ndarray.proofs.cells.ProductTiles.{accumulates-same, can-same}
use Rattle.ndarray.proofs.linalg.general.accumulate_as_row.Goals as goal

pub accumulate_vector-requires-clause-can : goal.accumulate_vector-requires-clause-can
accumulate_vector-requires-clause-can g c κs within = as_row-can_sum g.A.Valued c.args.left.now c.args.x.now c.args.array.now c.t.result c.t.ensures.axes c.t.ensures.value c.t.ensures.whole c.raw_dim-one.ensures.axes c.raw_dim-one.ensures.whole c.requires.can.shapes c.requires.can.sums

pub accumulate_vector-requires-clause-columns : goal.accumulate_vector-requires-clause-columns
accumulate_vector-requires-clause-columns g c κs within = as_row-columns g.A.Valued c.args.left.now c.args.x.now c.args.array.now c.t.result c.t.ensures.axes c.t.ensures.value c.t.ensures.whole c.raw_dim-one.ensures.axes c.raw_dim-one.ensures.whole c.requires.can.shapes

pub accumulate_vector-requires-clause-scaled : goal.accumulate_vector-requires-clause-scaled
accumulate_vector-requires-clause-scaled g c κs within =
    let v = g.A.Valued in
    can-same v c.args.alpha c.args.beta (column_entries (product_of v (matrix_of v c.args.left.now) (column_of v c.args.x.now))) (row_along 0 0 (product_of v (row_of v c.args.x.now) (matrix_of v c.t.result))) c.args.array.now
    (entries-as_row v c.args.left.now c.args.x.now c.args.array.now c.t.result c.t.ensures.axes c.t.ensures.value c.t.ensures.whole c.raw_dim-one.ensures.axes c.raw_dim-one.ensures.whole c.requires.can.shapes) c.requires.can.scaled

pub returns : goal.returns
returns g c =
    let v = g.A.Valued in
    accumulates-same v c.args.alpha c.args.beta (row_along 0 0 (product_of v (row_of v c.args.x.now) (matrix_of v c.t.result))) (column_entries (product_of v (matrix_of v c.args.left.now) (column_of v c.args.x.now))) c.args.array.now c.accumulate_vector.new.array
    (λ is inside. sym (entries-as_row v c.args.left.now c.args.x.now c.args.array.now c.t.result c.t.ensures.axes c.t.ensures.value c.t.ensures.whole c.raw_dim-one.ensures.axes c.raw_dim-one.ensures.whole c.requires.can.shapes is inside)) c.accumulate_vector.ensures
