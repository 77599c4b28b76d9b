use Rattle.std.proofs.Common.{◌++◌, ap, map, subst}
use Rattle.ndarray.specs.reduce.NonzeroProducts.{MultipliedSoFar}
use Rattle.ndarray.proofs.sums.NonzeroProducts.{multiplied-excess, multiplied-next}
use Rattle.ndarray.proofs.reduce.range_tests.times_run.Goals as goal

pub loop-x-preserved : goal.loop-x-preserved
loop-x-preserved g c =
    let v = g.A.Number.value in
    let fits = g.A.Number.fits in
    let times = c.in-Some-times_magnitude.ensures in
    λ whole rest h. multiplied-next fits whole (map v c.loop-x.run ++ rest) (map v c.next.new.self ++ rest) (v c.in-Some.x.now) (v c.loop-x.product)
    (ap (λ l. map v l ++ rest) c.in-Some.ensures) times.fits (c.loop-x.invariant whole rest h) (v c.in-Some-times_magnitude.more) times.product.1 times.product.0.1

pub returns-in_default-times_magnitude : goal.returns-in_default-times_magnitude
returns-in_default-times_magnitude g c =
    let v = g.A.Number.value in
    let fits = g.A.Number.fits in
    let exact = g.met.A.Integral.exact_law in
    let excess = c.in_default-times_magnitude.ensures in
    λ whole rest h. multiplied-excess fits whole (map v c.loop-x.run ++ rest) (map v c.next.new.self ++ rest) (v c.in-Some.x.now) (v c.loop-x.product)
    (ap (λ l. map v l ++ rest) c.in-Some.ensures) excess.fits (c.loop-x.invariant whole rest h)
    (λ y z t. g.A.Number.between_law y z t exact) (g.met.A.Zero.zero_fits_law exact) excess.product

pub returns : goal.returns
returns g c =
    let v = g.A.Number.value in
    let fits = g.A.Number.fits in
    λ whole rest h. subst (λ l. MultipliedSoFar fits whole (map v l ++ rest) (v c.loop-x.product)) c.in_default.ensures.0 (c.loop-x.invariant whole rest h)
