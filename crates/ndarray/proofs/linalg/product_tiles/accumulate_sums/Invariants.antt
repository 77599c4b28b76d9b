-- The cells so far took their sums.
use Rattle.std.proofs.Common.{◌+◌, ◌-◌, ◌≤◌, length}
use Rattle.ndarray.specs.linalg.ProductTiles.{AccumulatesIn, InRun, list_along}
use Rattle.ndarray.proofs.linalg.product_tiles.accumulate_sums.Given as goal

abbrev pub invariant-sums : goal.invariant-sums
invariant-sums g l = record {
  in_range : l.t ≤ length l.sums;
  done : AccumulatesIn g.A.Valued (InRun (g.D.Lengths.numbers l.index) l.axis l.first (l.first + l.t)) l.alpha l.beta (list_along g.A.Valued l.axis l.first l.sums) l.fn.array l.array;
}

abbrev pub decreases-sums : goal.decreases-sums
decreases-sums g l = length l.sums - l.t
