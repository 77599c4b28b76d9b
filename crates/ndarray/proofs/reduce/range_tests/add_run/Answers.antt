use Rattle.std.proofs.Common.{◌++◌, ap, map, subst, sym}
use Rattle.ndarray.specs.reduce.SignedSums.{AddedApart}
use Rattle.ndarray.proofs.sums.SignedSums.{AddedApart-excess, AddedApart-next}
use Rattle.ndarray.proofs.reduce.range_tests.add_run.Goals as goal

pub loop-x-preserved : goal.loop-x-preserved
loop-x-preserved g c =
    let v = g.A.Number.value in
    let fits = g.A.Number.fits in
    let x = c.in-Some-next.x.now in
    let more = c.in-Some-add_by_sign.more in
    let added = c.in-Some-add_by_sign.ensures in
    λ whole rest h. AddedApart-next fits whole (map v c.loop-x.run ++ rest) (map v c.next.new.self ++ rest) (v x) (v c.loop-x.sums.up) (v c.loop-x.sums.down)
    (ap (λ l. map v l ++ rest) c.in-Some-next.ensures) (c.loop-x.invariant whole rest h) (v more.up) (v more.down)
    (λ p. let t = added.up p in (t.0, ap v t.1))
    (λ n. let t = added.down n in (t.0, ap v t.1))

pub returns-in_default-add_by_sign : goal.returns-in_default-add_by_sign
returns-in_default-add_by_sign g c =
    let v = g.A.Number.value in
    let fits = g.A.Number.fits in
    let exact = g.met.A.Integral.exact_law in
    let x = c.in-Some-next.x.now in
    let excess = c.in_default-add_by_sign.ensures in
    λ whole rest h. AddedApart-excess fits whole (map v c.loop-x.run ++ rest) (map v c.next.new.self ++ rest) (v x) (v c.loop-x.sums.up) (v c.loop-x.sums.down)
    (ap (λ l. map v l ++ rest) c.in-Some-next.ensures) (c.loop-x.invariant whole rest h) (g.met.A.Zero.zero_fits_law exact) (λ y z t. g.A.Number.between_law y z t exact)
    (λ p. (excess.up p).0) (λ n. (excess.down n).0)

pub returns : goal.returns
returns g c =
    let v = g.A.Number.value in
    let fits = g.A.Number.fits in
    λ whole rest h. subst (λ l. AddedApart fits whole (map v l ++ rest) (v c.loop-x.sums.up) (v c.loop-x.sums.down)) c.in_default-next.ensures.0 (c.loop-x.invariant whole rest h)

pub returns-in-Some : goal.returns-in-Some
returns-in-Some g c =
    let v = g.A.Number.value in
    λ whole rest h. c.add_cells.ensures whole rest (subst (λ l. AddedApart g.A.Number.fits whole (map v l ++ rest) (v c.args.sums.up) (v c.args.sums.down)) (sym c.in-Some.ensures) h)
