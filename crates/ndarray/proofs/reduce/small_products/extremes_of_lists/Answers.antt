use Rattle.std.proofs.Common.{[], map, subst, sym}
use Rattle.std.proofs.lemmas.List.{append-nil}
use Rattle.ndarray.specs.reduce.SmallProducts.{ExtremesSoFar}
use Rattle.ndarray.proofs.reduce.small_products.extremes_of_lists.Goals as goal

pub returns-clause-left : goal.returns-clause-left
returns-clause-left g c =
    let v = g.A.Number.value in
    let cells = map v c.args.left in
    c.with_run.ensures cells []
    (subst (λ l. ExtremesSoFar g.A.Number.fits cells l (v c.no_extremes.result.least) (v c.no_extremes.result.greatest)) (sym (append-nil cells)) (c.no_extremes.ensures cells))

pub returns-clause-right : goal.returns-clause-right
returns-clause-right g c =
    let v = g.A.Number.value in
    let cells = map v c.args.right in
    c.with_run-2.ensures cells []
    (subst (λ l. ExtremesSoFar g.A.Number.fits cells l (v c.no_extremes-2.result.least) (v c.no_extremes-2.result.greatest)) (sym (append-nil cells)) (c.no_extremes-2.ensures cells))
