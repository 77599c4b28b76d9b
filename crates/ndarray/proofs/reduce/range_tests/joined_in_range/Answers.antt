use Rattle.std.proofs.Common.{◌≡◌, ◌∙◌, ap, None, Some, subst, sym}
use Rattle.std.specs.Prelude.{◌+ℤ◌, ◌-ℤ◌, pos}
use Rattle.ndarray.proofs.lists.Decisions.{says_no}
use Rattle.ndarray.proofs.sums.MagnitudeSums.{joined-magnitude, joined-size, joined-sum, joined-summable}
use Rattle.ndarray.proofs.reduce.range_tests.joined_in_range.Goals as goal

pub returns-in_default-clause-magnitudes : goal.returns-in_default-clause-magnitudes
returns-in_default-clause-magnitudes g c =
    let v = g.A.Number.value in
    let fits = g.A.Number.fits in
    let exact = g.met.A.Integral.exact_law in
    let zero : v c.zero.result ≡ pos 0 = ap v c.zero.ensures ∙ g.met.A.Zero.zero_law exact in
    let excess = g.met.A.CheckedSub.checked_sub_law c.zero.result c.args.sums.now.down None c.in_default.ensures in
    λ whole h. says_no _ (λ f. excess (subst (λ z. fits (z -ℤ v c.args.sums.now.down)) (sym zero)
    (joined-size fits (λ x y z. g.A.Number.between_law x y z exact) g.met.A.IntegerElem.negated_fits (g.met.A.Zero.zero_fits_law exact) whole _ _ h f)))

pub returns-in_default-checked_add-clause-magnitudes : goal.returns-in_default-checked_add-clause-magnitudes
returns-in_default-checked_add-clause-magnitudes g c =
    let v = g.A.Number.value in
    let fits = g.A.Number.fits in
    let exact = g.met.A.Integral.exact_law in
    let zero : v c.zero.result ≡ pos 0 = ap v c.zero.ensures ∙ g.met.A.Zero.zero_law exact in
    let size = (g.met.A.CheckedSub.checked_sub_law c.zero.result c.args.sums.now.down (Some c.in-Some.size) c.in-Some.ensures).1 ∙ ap (λ z. z -ℤ v c.args.sums.now.down) zero in
    let excess = g.met.A.CheckedAdd.checked_add_law c.args.sums.now.up c.in-Some.size None c.in_default-checked_add.ensures in
    λ whole h. says_no _ (λ f. excess (subst fits (sym (ap (λ z. v c.args.sums.now.up +ℤ z) size
    ∙ joined-magnitude fits (λ x y z. g.A.Number.between_law x y z exact) g.met.A.IntegerElem.negated_fits (g.met.A.Zero.zero_fits_law exact) whole _ _ h)) f))

pub returns-clause-magnitudes : goal.returns-clause-magnitudes
returns-clause-magnitudes g c =
    let v = g.A.Number.value in
    let fits = g.A.Number.fits in
    let exact = g.met.A.Integral.exact_law in
    let zero : v c.zero.result ≡ pos 0 = ap v c.zero.ensures ∙ g.met.A.Zero.zero_law exact in
    let size = (g.met.A.CheckedSub.checked_sub_law c.zero.result c.args.sums.now.down (Some c.in-Some.size) c.in-Some.ensures).1 ∙ ap (λ z. z -ℤ v c.args.sums.now.down) zero in
    let larger = (g.met.A.CheckedAdd.checked_add_law c.args.sums.now.up c.in-Some.size (Some c.in-Some-checked_add._magnitude) c.in-Some-checked_add.ensures).0 in
    let both = g.met.A.CheckedAdd.checked_add_law c.args.sums.now.up c.args.sums.now.down c.checked_add-2.result c.checked_add-2.ensures in
    λ whole h. (
      λ _. subst fits (ap (λ z. v c.args.sums.now.up +ℤ z) size ∙ joined-magnitude fits (λ x y z. g.A.Number.between_law x y z exact) g.met.A.IntegerElem.negated_fits (g.met.A.Zero.zero_fits_law exact) whole _ _ h) larger,
      λ _. (joined-sum fits (λ x y z. g.A.Number.between_law x y z exact) g.met.A.IntegerElem.negated_fits (g.met.A.Zero.zero_fits_law exact) whole _ _ h v c.checked_add-2.result both).0,
    )

pub returns-clause-selections : goal.returns-clause-selections
returns-clause-selections g c =
    let fits = g.A.Number.fits in
    let exact = g.met.A.Integral.exact_law in
    λ whole h some. joined-summable fits (λ x y z. g.A.Number.between_law x y z exact) g.met.A.IntegerElem.negated_fits (g.met.A.Zero.zero_fits_law exact) whole _ _ h ((returns-clause-magnitudes g c whole h).0 some)

pub returns-clause-sum : goal.returns-clause-sum
returns-clause-sum g c =
    let v = g.A.Number.value in
    let fits = g.A.Number.fits in
    let exact = g.met.A.Integral.exact_law in
    let both = g.met.A.CheckedAdd.checked_add_law c.args.sums.now.up c.args.sums.now.down c.checked_add-2.result c.checked_add-2.ensures in
    λ whole h. (joined-sum fits (λ x y z. g.A.Number.between_law x y z exact) g.met.A.IntegerElem.negated_fits (g.met.A.Zero.zero_fits_law exact) whole _ _ h v c.checked_add-2.result both).1
