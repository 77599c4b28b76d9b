-- At each place so far the products fit.
use Rattle.std.proofs.Common.{ℕ, ◌<◌, reverse}
use Rattle.std.specs.Prelude.{pos}
use Rattle.ndarray.specs.Convolution.{convolution_products}
use Rattle.ndarray.specs.Integers.{int_products, int_sums}
use Rattle.ndarray.specs.Products.{magnitude_sum}
use Rattle.ndarray.specs.Sums.{IsSummable}
use Rattle.ndarray.proofs.conv.overlaps_fit.Given as goal

abbrev pub invariant-loop-s : goal.invariant-loop-s
invariant-loop-s g l =
    let products = convolution_products int_products g.A.Number.value l.x.cells (reverse l.mirrored.cells) in
    (s : ℕ) → s < l.s → g.A.Number.fits (pos (magnitude_sum (products s))) × IsSummable int_sums g.A.Number.fits (products s)
