use Rattle.std.proofs.Common.{length}
use Rattle.std.specs.Prelude.{unsigned_abs}
use Rattle.ndarray.proofs.sums.SmallProducts.{SmallSum}
use Rattle.ndarray.proofs.reduce.small_products.sum_of_small_products.Given as goal

abbrev pub invariant-loop-x : goal.invariant-loop-x
invariant-loop-x g l =
    let v = g.A.Number.value in
    SmallSum g.A.Number.fits v l.fn.left l.fn.right (unsigned_abs (v l.most)) l.xs l.ys (v l.sum)

abbrev pub decreases-loop-x : goal.decreases-loop-x
decreases-loop-x g l = length l.xs
