use Rattle.ndarray.proofs.Common.{rules, ◌≡◌, ◌∙◌, ◌*ℤ◌, FitsSigned, ap, of_z, refl, subst, sym, to_z, w64, to_z-of_z, CanMap, Maps, int_shr, array_by, maps-follow-twice}
use Rattle.ndarray_examples.specs.Callers.{whole_number}
use Rattle.ndarray_examples.specs.RangeTests.{amplified_at}
use Rattle.ndarray_examples.proofs.range_tests.amplify.Goals as goal

pub returns-then-not-mul_scalar_fits-clause-when : goal.returns-then-not-mul_scalar_fits-clause-when
returns-then-not-mul_scalar_fits-clause-when g c = (λ off. absurd (search rules), λ can. c.if-not-mul_scalar_fits.ensures.exact.1 (λ is x here. search (rules, can is x here)))

pub returns-clause-when : goal.returns-clause-when
returns-clause-when g c = (λ _ is x here. subst (λ k. FitsSigned w64 (x *ℤ k)) (to_z-of_z w64 c.args.gain c.ranges.gain) (c.if-not-mul_scalar_fits.ensures.exact.0 refl is x here), λ _. refl)

pub returns-in_err-copy-clause-error : goal.returns-in_err-copy-clause-error
returns-in_err-copy-clause-error g c =
    let can : CanMap (λ x. FitsSigned w64 (x *ℤ c.args.gain)) c.args.signal.now =
    λ is x here. subst (λ k. FitsSigned w64 (x *ℤ k)) (to_z-of_z w64 c.args.gain c.ranges.gain) (c.if-not-mul_scalar_fits.ensures.exact.0 refl is x here) in
    search (rules, can)

pub returns-clause-samples : goal.returns-clause-samples
returns-clause-samples g c =
    let gain = c.args.gain in
    let bits = c.args.bits in
    let same = to_z-of_z w64 gain c.ranges.gain in
    let products : Maps (λ x y. y ≡ x *ℤ to_z w64 (of_z w64 gain)) c.in_ok-copy.copy c.in_ok-products.products = search rules in
    let samples : Maps (λ y z. z ≡ int_shr y bits) c.in_ok-products.products c.in_ok-samples.samples = search rules in
    maps-follow-twice c.in_ok-copy.copy c.in_ok-products.products c.in_ok-samples.samples _ _ (amplified_at gain bits c.in_ok-copy.copy)
    (λ is x y z here product shifted. shifted ∙ (ap (λ v. int_shr v bits) (product ∙ ap (λ k. x *ℤ k) same) ∙ ap (λ o. int_shr (whole_number o *ℤ gain) bits) (sym here)))
    products samples
    ∙ ap (λ v. array_by v.lengths (amplified_at gain bits v)) (c.in_ok-copy.ensures.same (λ x y e. e))
