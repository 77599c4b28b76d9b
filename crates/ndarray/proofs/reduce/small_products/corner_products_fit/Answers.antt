use Rattle.ndarray.proofs.sums.CornerProducts.{corners-enough, corners-needed}
use Rattle.ndarray.proofs.reduce.small_products.corner_products_fit.Goals as goal

pub returns-then-both_products_fit : goal.returns-then-both_products_fit
returns-then-both_products_fit g c =
    let fits = g.A.Number.fits in
    let exact = g.met.A.Integral.exact_law in
    let zero_fits = g.met.A.Zero.zero_fits_law exact in
    let first = c.both_products_fit.ensures.0 c.if-both_products_fit.true in
    let last = c.both_products_fit-then-both_products_fit.ensures in
    λ xs ys left right. (
      λ on. corners-enough fits (λ x y z. g.A.Number.between_law x y z exact) zero_fits xs ys _ _ _ _ left right first (last.0 on),
      λ all. last.1 (corners-needed fits (λ x y z. g.A.Number.between_law x y z exact) zero_fits xs ys _ _ _ _ left right all).1,
    )
