use Rattle.std.proofs.Common.{◌∙◌, ap}
use Rattle.ndarray.proofs.sums.SmallProducts.{extremes-start}
use Rattle.ndarray.proofs.reduce.small_products.no_extremes.Goals as goal

pub returns : goal.returns
returns g c =
    let v = g.A.Number.value in
    let exact = g.met.A.Integral.exact_law in
    λ whole. extremes-start g.A.Number.fits whole _ _ (ap v c.zero.ensures ∙ g.met.A.Zero.zero_law exact) (ap v c.zero-2.ensures ∙ g.met.A.Zero.zero_law exact)
