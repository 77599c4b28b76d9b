use Rattle.std.proofs.Common.{ap, get_or, sym}
use Rattle.ndarray.specs.linalg.ProductTiles.{entries_along, other_index}
use Rattle.ndarray.specs.Products.{matrix_entries, matrix_of, product_of}
use Rattle.ndarray.proofs.boxes.ProductShapes.{inner-two}
use Rattle.ndarray.proofs.cells.GeneralProducts.{entries-by_rows, lengths-made}
use Rattle.ndarray.proofs.cells.ProductTiles.{accumulates-same, can-same}
use Rattle.ndarray.proofs.linalg.general.accumulate_by_rows.Goals as goal

pub accumulate_matrix-requires-clause-inner : goal.accumulate_matrix-requires-clause-inner
accumulate_matrix-requires-clause-inner g c κs within = inner-two c.args.left.now.lengths c.args.right.now.lengths c.raw_dim.ensures.axes c.requires.can.shapes.inner

pub accumulate_matrix-requires-clause-rows : goal.accumulate_matrix-requires-clause-rows
accumulate_matrix-requires-clause-rows g c κs within = ap (other_index 1) (lengths-made g.A.Valued c.args.left.now c.args.right.now c.args.array.now c.raw_dim.ensures.axes c.raw_dim-2.ensures.axes c.requires.can.shapes)

pub accumulate_matrix-requires-clause-columns : goal.accumulate_matrix-requires-clause-columns
accumulate_matrix-requires-clause-columns g c κs within = ap (λ ns. get_or ns 1 0) (lengths-made g.A.Valued c.args.left.now c.args.right.now c.args.array.now c.raw_dim.ensures.axes c.raw_dim-2.ensures.axes c.requires.can.shapes)

pub accumulate_matrix-requires-clause-scaled : goal.accumulate_matrix-requires-clause-scaled
accumulate_matrix-requires-clause-scaled g c κs within =
    let v = g.A.Valued in
    let p = product_of v (matrix_of v c.args.left.now) (matrix_of v c.args.right.now) in
    can-same v c.args.alpha c.args.beta (matrix_entries p) (entries_along 1 0 p) c.args.array.now
    (entries-by_rows v c.args.left.now c.args.right.now c.args.array.now c.raw_dim.ensures.axes c.raw_dim-2.ensures.axes c.requires.can.shapes) c.requires.can.scaled

pub returns : goal.returns
returns g c =
    let v = g.A.Valued in
    let p = product_of v (matrix_of v c.args.left.now) (matrix_of v c.args.right.now) in
    accumulates-same v c.args.alpha c.args.beta (entries_along 1 0 p) (matrix_entries p) c.args.array.now c.accumulate_matrix.new.array
    (λ is inside. sym (entries-by_rows v c.args.left.now c.args.right.now c.args.array.now c.raw_dim.ensures.axes c.raw_dim-2.ensures.axes c.requires.can.shapes is inside)) c.accumulate_matrix.ensures
