-- The columns so far took their sums.
use Rattle.std.proofs.Common.{◌≤◌, ◌-◌, [], ◌∷◌}
use Rattle.ndarray.specs.linalg.ProductTiles.{AccumulatesIn, InRun, row_along}
use Rattle.ndarray.specs.Products.{matrix_of, product_of, row_of}
use Rattle.ndarray.proofs.linalg.product_tiles.accumulate_vector.Given as goal

abbrev pub invariant-runs : goal.invariant-runs
invariant-runs g l = record {
  in_range : l.first ≤ l.columns;
  done : AccumulatesIn g.A.Valued (InRun (0 ∷ []) 0 0 l.first) l.alpha l.beta (row_along 0 0 (product_of g.A.Valued (row_of g.A.Valued l.x) (matrix_of g.A.Valued l.right))) l.fn.array l.array;
}

abbrev pub decreases-runs : goal.decreases-runs
decreases-runs g l = l.columns - l.first
