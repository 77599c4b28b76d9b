use Rattle.std.proofs.Common.{◌∙◌, ap, map, refl, subst}
use Rattle.std.specs.Prelude.{IsPermutation}
use Rattle.std.proofs.lemmas.List.{map-append}
use Rattle.std.proofs.lemmas.List.Sorted.{IsPermutation-map}
use Rattle.ndarray.specs.reduce.NonzeroProducts.{MultipliedSoFar}
use Rattle.ndarray.specs.order.Rows.{joined}
use Rattle.ndarray.proofs.sums.NonzeroProducts.{multiplied-rearranged, multiplied-start}
use Rattle.ndarray.proofs.reduce.range_tests.magnitudes_multiplied.Goals as goal

pub loop-run-init : goal.loop-run-init
loop-run-init g c =
    let v = g.A.Number.value in
    let fits = g.A.Number.fits in
    let exact = g.met.A.Integral.exact_law in
    let lies = map v (joined c.of-runs.result) in
    let moved = IsPermutation-map v c.args.array.now.cells (joined c.of-runs.result) (subst (λ a. IsPermutation a.cells (joined c.of-runs.result)) c.view.ensures.same c.of-runs.ensures) in
    multiplied-rearranged (map v c.args.array.now.cells) lies moved fits lies (v c.one-product.result)
    (multiplied-start fits lies lies (v c.one-product.result) refl (ap v c.one-product.ensures ∙ g.met.A.One.one_law exact) (g.met.A.One.one_fits_law exact))

pub loop-run-preserved : goal.loop-run-preserved
loop-run-preserved g c =
    let v = g.A.Number.value in
    let rest = joined c.next.new.self in
    c.in-Some-times_run.ensures (map v c.args.array.now.cells) (map v rest)
    (subst (λ l. MultipliedSoFar g.A.Number.fits (map v c.args.array.now.cells) l (v c.loop-run.product)) (ap (λ rs. map v (joined rs)) c.in-Some.ensures ∙ map-append v c.in-Some.run' rest) c.loop-run.invariant)

pub returns-in_default-times_run : goal.returns-in_default-times_run
returns-in_default-times_run g c =
    let v = g.A.Number.value in
    let rest = joined c.next.new.self in
    c.in_default-times_run.ensures (map v c.args.array.now.cells) (map v rest)
    (subst (λ l. MultipliedSoFar g.A.Number.fits (map v c.args.array.now.cells) l (v c.loop-run.product)) (ap (λ rs. map v (joined rs)) c.in-Some.ensures ∙ map-append v c.in-Some.run' rest) c.loop-run.invariant)
