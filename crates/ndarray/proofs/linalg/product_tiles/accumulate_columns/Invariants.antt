-- The rows so far took their sums.
use Rattle.std.proofs.Common.{◌+◌, get_or}
use Rattle.ndarray.specs.linalg.ProductTiles.{AccumulatesIn, InTile, entries_along}
use Rattle.ndarray.specs.Products.{matrix_of, product_of}
use Rattle.ndarray.proofs.linalg.product_tiles.accumulate_columns.Given as goal

abbrev pub invariant-loop-i : goal.invariant-loop-i
invariant-loop-i g l =
    let v = g.A.Valued in
    AccumulatesIn v (InTile l.axis 0 l.i l.first (l.first + get_or l.part.lengths 1 0)) l.alpha l.beta (entries_along l.axis l.first (product_of v (matrix_of v l.left) (matrix_of v l.part))) l.fn.array l.array
