use Rattle.std.proofs.Common.{◌∷◌, None, Some, subst, sym}
use Rattle.ndarray.specs.reduce.SignedSums.{NegativeFits, ProductsApart}
use Rattle.ndarray.proofs.sums.MagnitudeSums.{apart-added, apart-excess, negative-of_fits}
use Rattle.ndarray.proofs.reduce.range_tests.add_product.Goals as goal

pub returns-in_default : goal.returns-in_default
returns-in_default g c =
    let v = g.A.Number.value in
    let fits = g.A.Number.fits in
    let exact = g.met.A.Integral.exact_law in
    λ whole rest h. apart-excess fits (λ x y z. g.A.Number.between_law x y z exact) g.met.A.IntegerElem.negated_fits (g.met.A.Zero.zero_fits_law exact) whole rest _
    (negative-of_fits fits (v c.args.x) (v c.args.y) c.tell_fits.ensures c.tell_fits-2.ensures) v c.args.sums.up c.args.sums.down h
    (g.met.A.CheckedMul.checked_mul_law c.args.x c.args.y None c.in_default.ensures)

pub returns : goal.returns
returns g c =
    let v = g.A.Number.value in
    let fits = g.A.Number.fits in
    let exact = g.met.A.Integral.exact_law in
    let product = (g.met.A.CheckedMul.checked_mul_law c.args.x c.args.y (Some c.in-Some.product) c.in-Some.ensures).1 in
    let sign = subst (NegativeFits fits) (sym product) (negative-of_fits fits (v c.args.x) (v c.args.y) c.tell_fits.ensures c.tell_fits-2.ensures) in
    λ whole rest h. apart-added fits (λ x y z. g.A.Number.between_law x y z exact) g.met.A.IntegerElem.negated_fits (g.met.A.Zero.zero_fits_law exact) whole rest (v c.in-Some.product) sign v
    c.args.sums.up c.args.sums.down (subst (λ z. ProductsApart fits whole (z ∷ rest) (v c.args.sums.up) (v c.args.sums.down)) (sym product) h)
    (λ s. s.up) (λ s. s.down) c.add_by_sign.result c.add_by_sign.ensures.up c.add_by_sign.ensures.down
