use Rattle.std.proofs.Common.{◌∙◌, ap, map, subst}
use Rattle.std.specs.Prelude.{IsPermutation}
use Rattle.std.proofs.lemmas.List.{map-append}
use Rattle.std.proofs.lemmas.List.Sorted.{IsPermutation-map}
use Rattle.ndarray.specs.order.Rows.{joined}
use Rattle.ndarray.specs.reduce.SmallProducts.{ExtremesSoFar}
use Rattle.ndarray.proofs.sums.SmallProducts.{extremes-moved}
use Rattle.ndarray.proofs.reduce.small_products.extremes_of_array.Goals as goal

pub loop-run-init : goal.loop-run-init
loop-run-init g c =
    let v = g.A.Number.value in
    let lies = map v (joined c.of-runs.result) in
    let moved = IsPermutation-map v c.args.array.now.cells (joined c.of-runs.result) (subst (λ a. IsPermutation a.cells (joined c.of-runs.result)) c.view.ensures.same c.of-runs.ensures) in
    extremes-moved g.A.Number.fits (map v c.args.array.now.cells) lies lies _ _ moved (c.no_extremes-extremes.ensures lies)

pub loop-run-preserved : goal.loop-run-preserved
loop-run-preserved g c =
    let v = g.A.Number.value in
    let fits = g.A.Number.fits in
    let cells = map v c.args.array.now.cells in
    let rest = joined c.next.new.self in
    c.with_run-extremes.ensures cells (map v rest)
    (subst (λ l. ExtremesSoFar fits cells l (v c.loop-run.extremes.least) (v c.loop-run.extremes.greatest)) (ap (λ rs. map v (joined rs)) c.in-Some.ensures ∙ map-append v c.in-Some.run' rest) c.loop-run.invariant)

pub returns : goal.returns
returns g c =
    let v = g.A.Number.value in
    subst (λ rs. ExtremesSoFar g.A.Number.fits (map v c.args.array.now.cells) (map v (joined rs)) (v c.loop-run.extremes.least) (v c.loop-run.extremes.greatest)) c.in_default.ensures.0 c.loop-run.invariant
