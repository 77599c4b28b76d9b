use Rattle.std.proofs.Common.{◌++◌, ap, map, subst}
use Rattle.ndarray.specs.reduce.SmallProducts.{ExtremesSoFar}
use Rattle.ndarray.proofs.reduce.small_products.with_stepped.Goals as goal

pub loop-x-preserved : goal.loop-x-preserved
loop-x-preserved g c =
    let v = g.A.Number.value in
    λ whole rest h.
    c.with_number-extremes.ensures whole (map v c.next.new.self ++ rest)
    (subst (λ l. ExtremesSoFar g.A.Number.fits whole l (v c.loop-x.extremes.least) (v c.loop-x.extremes.greatest)) (ap (λ l. map v l ++ rest) c.in-Some.ensures) (c.loop-x.invariant whole rest h))

pub returns : goal.returns
returns g c =
    let v = g.A.Number.value in
    λ whole rest h. subst (λ l. ExtremesSoFar g.A.Number.fits whole (map v l ++ rest) (v c.loop-x.extremes.least) (v c.loop-x.extremes.greatest)) c.in_default.ensures.0 (c.loop-x.invariant whole rest h)
