use Rattle.std.proofs.Common.{◌++◌, map, subst, sym}
use Rattle.ndarray.specs.reduce.SmallProducts.{ExtremesSoFar}
use Rattle.ndarray.proofs.reduce.small_products.with_run.Goals as goal

pub returns-in-Some : goal.returns-in-Some
returns-in-Some g c =
    let v = g.A.Number.value in
    λ whole rest h. c.with_slice.ensures whole rest (subst (λ l. ExtremesSoFar g.A.Number.fits whole (map v l ++ rest) (v c.args.extremes.least) (v c.args.extremes.greatest)) (sym c.in-Some.ensures) h)
