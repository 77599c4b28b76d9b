-- The columns so far took their sums.
use Rattle.std.proofs.Common.{◌≤◌, ◌-◌, get_or}
use Rattle.ndarray.specs.linalg.ProductTiles.{AccumulatesIn, InTile, entries_along}
use Rattle.ndarray.specs.Products.{matrix_of, product_of}
use Rattle.ndarray.proofs.linalg.product_tiles.accumulate_matrix.Given as goal

abbrev pub invariant-tiles : goal.invariant-tiles
invariant-tiles g l = record {
  in_range : l.first ≤ l.columns;
  done : AccumulatesIn g.A.Valued (InTile l.axis 0 (get_or l.left.lengths 0 0) 0 l.first) l.alpha l.beta (entries_along l.axis 0 (product_of g.A.Valued (matrix_of g.A.Valued l.left) (matrix_of g.A.Valued l.right))) l.fn.array l.array;
}

abbrev pub decreases-tiles : goal.decreases-tiles
decreases-tiles g l = l.columns - l.first
