use Rattle.std.proofs.Common.{◌≢◌, ◌∙◌, ap, pos, sym, subst}
use Rattle.std.proofs.lemmas.Bool.{false≢true}
use Rattle.ndarray.specs.Integers.{nonzero_magnitude}
use Rattle.ndarray.proofs.sums.NonzeroProducts.{checked-product, magnitude-nonzero, product-kept}
use Rattle.ndarray.proofs.reduce.range_tests.times_magnitude.Goals as goal

pub returns-then-is_zero-clause-product : goal.returns-then-is_zero-clause-product
returns-then-is_zero-clause-product g c =
    let exact = g.met.A.Integral.exact_law in
    product-kept g.A.Number.value g.A.Number.fits c.args.product _ (ap nonzero_magnitude ((c.is_zero.ensures.value exact).0 c.if-is_zero.true)) (g.met.A.One.one_fits_law exact) c.tell_fits.ensures

pub returns-then-is_one-clause-product : goal.returns-then-is_one-clause-product
returns-then-is_one-clause-product g c =
    let exact = g.met.A.Integral.exact_law in
    product-kept g.A.Number.value g.A.Number.fits c.args.product _ (ap nonzero_magnitude ((c.is_one.ensures.value exact).0 c.if-is_one.true)) (g.met.A.One.one_fits_law exact) c.tell_fits.ensures

pub returns-in_default-clause-product : goal.returns-in_default-clause-product
returns-in_default-clause-product g c =
    let exact = g.met.A.Integral.exact_law in
    let some : g.A.Number.value c.args.x ≢ pos 0 = λ e. false≢true (sym c.if-is_zero.false ∙ (c.is_zero.ensures.value exact).1 e) in
    λ both. c.in_default.ensures (subst (λ n. g.A.Number.fits (pos n)) (magnitude-nonzero (g.A.Number.value c.args.x) some) both.0)

pub returns-clause-product : goal.returns-clause-product
returns-clause-product g c =
    let v = g.A.Number.value in
    let exact = g.met.A.Integral.exact_law in
    let some : v c.args.x ≢ pos 0 = λ e. false≢true (sym c.if-is_zero.false ∙ (c.is_zero.ensures.value exact).1 e) in
    let same = ap pos (sym (magnitude-nonzero (v c.args.x) some)) in
    let size = c.in-Some.ensures in
    checked-product v g.A.Number.fits (v c.args.product) (v c.in-Some.factor) _ c.checked_mul.result (size.1 ∙ same) (subst g.A.Number.fits same size.0)
    (g.met.A.CheckedMul.checked_mul_law c.args.product c.in-Some.factor c.checked_mul.result c.checked_mul.ensures)
