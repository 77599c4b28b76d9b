-- Those of the cells before i.
use Rattle.std.proofs.Common.{◌-◌, ◌≤◌, drop, length, map}
use Rattle.ndarray.specs.reduce.SmallProducts.{ExtremesSoFar}
use Rattle.ndarray.proofs.reduce.small_products.extremes_of_slices.Given as goal

abbrev pub invariant-turns : goal.invariant-turns
invariant-turns g l =
    let v = g.A.Number.value in
    let fits = g.A.Number.fits in
    record {
      in_range : l.i ≤ length l.xs;
      left : ExtremesSoFar fits (map v l.xs) (map v (drop l.i l.xs)) (v l.first.least) (v l.first.greatest);
      right : ExtremesSoFar fits (map v l.ys) (map v (drop l.i l.ys)) (v l.second.least) (v l.second.greatest);
    }

abbrev pub decreases-turns : goal.decreases-turns
decreases-turns g l = length l.xs - l.i
