use Rattle.std.proofs.Common.{◌∙◌, ap, map, refl, subst}
use Rattle.std.specs.Prelude.{IsPermutation}
use Rattle.std.proofs.lemmas.List.{map-append}
use Rattle.std.proofs.lemmas.List.Sorted.{IsPermutation-map}
use Rattle.ndarray.specs.order.Rows.{joined}
use Rattle.ndarray.specs.reduce.SignedSums.{AddedApart}
use Rattle.ndarray.proofs.sums.SignedSums.{AddedApart-rearranged, AddedApart-start}
use Rattle.ndarray.proofs.reduce.range_tests.signed_sums.Goals as goal

pub loop-run-init : goal.loop-run-init
loop-run-init g c =
    let v = g.A.Number.value in
    let fits = g.A.Number.fits in
    let exact = g.met.A.Integral.exact_law in
    let cells = map v c.args.array.now.cells in
    let lies = map v (joined c.of-runs.result) in
    let moved = IsPermutation-map v c.args.array.now.cells (joined c.of-runs.result) (subst (λ a. IsPermutation a.cells (joined c.of-runs.result)) c.view.ensures.same c.of-runs.ensures) in
    AddedApart-rearranged cells lies moved fits lies (v c.zero.result) (v c.zero-2.result)
    (AddedApart-start fits lies lies (v c.zero.result) (v c.zero-2.result) refl (g.met.A.Zero.zero_fits_law exact) (ap v c.zero.ensures ∙ g.met.A.Zero.zero_law exact) (ap v c.zero-2.ensures ∙ g.met.A.Zero.zero_law exact))

pub loop-run-preserved : goal.loop-run-preserved
loop-run-preserved g c =
    let v = g.A.Number.value in
    let cells = map v c.args.array.now.cells in
    let rest = joined c.next.new.self in
    c.in_ok-sums.ensures cells (map v rest)
    (subst (λ l. AddedApart g.A.Number.fits cells l (v c.loop-run.sums.up) (v c.loop-run.sums.down)) (ap (λ rs. map v (joined rs)) c.in-Some.ensures ∙ map-append v c.in-Some.run' rest) c.loop-run.invariant)
