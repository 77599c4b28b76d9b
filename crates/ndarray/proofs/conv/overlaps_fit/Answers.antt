use Rattle.std.proofs.Common.{ℕ, map, reverse, subst}
use Rattle.std.specs.Prelude.{pos}
use Rattle.ndarray.specs.Convolution.{convolution_products}
use Rattle.ndarray.specs.Integers.{int_products, int_sums}
use Rattle.ndarray.specs.Products.{magnitude_sum}
use Rattle.ndarray.specs.reduce.SmallProducts.{HaveSmallProducts}
use Rattle.ndarray.specs.Sums.{IsSummable}
use Rattle.ndarray.proofs.convolution.SmallProducts.{small-overlaps}
use Rattle.ndarray.proofs.lists.Decisions.{says_yes}
use Rattle.ndarray.proofs.conv.overlaps_fit.Goals as goal
use Rattle.ndarray.proofs.conv.overlaps_fit.Goals.{Then-have_small_products}

-- where the cells are small
small-each : (g : _) (c : Then-have_small_products g) (s : ℕ) → g.A.Number.fits (pos (magnitude_sum (convolution_products int_products g.A.Number.value c.args.x.now.cells (reverse c.args.mirrored.now.cells) s))) × IsSummable int_sums g.A.Number.fits (convolution_products int_products g.A.Number.value c.args.x.now.cells (reverse c.args.mirrored.now.cells) s)
small-each g c =
    let v = g.A.Number.value in
    let fits = g.A.Number.fits in
    let exact = g.met.A.Integral.exact_law in
    let xs = c.args.x.now.cells in
    let zs = c.args.mirrored.now.cells in
    let small = subst (λ n. HaveSmallProducts fits n (map v xs) (map v zs)) c.len.ensures.cells (c.have_small_products.ensures c.if-have_small_products.true) in
    small-overlaps v fits (λ y z t. g.A.Number.between_law y z t exact) (g.met.A.Zero.zero_fits_law exact) g.met.A.IntegerElem.negated_fits xs zs small

pub returns-then-have_small_products-clause-magnitudes : goal.returns-then-have_small_products-clause-magnitudes
returns-then-have_small_products-clause-magnitudes g c = says_yes _ (λ s _. (small-each g c s).0)

pub returns-then-have_small_products-clause-selections : goal.returns-then-have_small_products-clause-selections
returns-then-have_small_products-clause-selections g c = λ _ s _. (small-each g c s).1
