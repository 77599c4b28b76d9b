use Rattle.std.proofs.Common.{rules, ℤ, pos, ◌∙◌, refl, subst}
use Rattle.std.specs.Prelude.{FitsSigned}
use Rattle.std.specs.Int.{w64}
use Rattle.std.proofs.lemmas.List.{map-id}
use Rattle.ndarray.specs.Grid.{Grid, IsGrid}
use Rattle.ndarray.specs.Integers.{int_products, magnitude_product}
use Rattle.ndarray.specs.Sums.{IsSummable}
use Rattle.ndarray.proofs.callers.Lanes.{lanes-summable}
use Rattle.ndtables.proofs.LaneProducts.{lanes-multiply}
use Rattle.ndtables.specs.Reducing.{ProductsFit}
use Rattle.ndarray.proofs.callers.Testing.{tested-cells, tested-holds}
use Rattle.ndtables.proofs.reducing.lane_products_fit.Goals as goal

pub returns-clause-magnitudes : goal.returns-clause-magnitudes
returns-clause-magnitudes c =
    let fits = λ (lane : Grid ℤ). FitsSigned w64 (pos (magnitude_product lane.cells)) in
    let (o, ran) = c.all.ensures.ran in
    let told = tested-cells _ _ _ _ fits _ c.from.result.nested (c.from.ensures ∙ c.lanes.ensures) o c.all.result ran (λ is k turn. (search rules, (turn.0, turn.1, search (rules, turn.2, map-id turn.0.cells)))) in
    told (λ is stop. (stop.2.0, (stop.0, stop.1, λ fit. absurd (search (rules, stop.2.1.1, map-id stop.0.cells, fit))))) (λ end. end)

pub returns-clause-selections : goal.returns-clause-selections
returns-clause-selections c =
    let fits = λ (lane : Grid ℤ). IsSummable int_products (FitsSigned w64) lane.cells in
    let (o, ran) = c.all.ensures.ran in
    let told = tested-holds _ _ _ _ fits _ c.from.result.nested (c.from.ensures ∙ c.lanes.ensures) o c.all.result ran (λ is k turn. (search rules, (turn.0, turn.1, search (rules, turn.2)))) in
    told (λ q is stop. stop.2.0)

pub returns-then-products_fit-clause-magnitudes : goal.returns-then-products_fit-clause-magnitudes
returns-then-products_fit-clause-magnitudes c =
    let table = c.args.table.now in
    let fits = c.products_fit.ensures.magnitudes.0 c.if-products_fit.true in
    let all : ProductsFit c.view.result.cells = subst (λ zs. FitsSigned w64 (pos (magnitude_product zs))) (map-id c.view.result.cells) fits in
    let whole : IsGrid table = subst IsGrid c.view.ensures.same c.view.ensures.whole in
    (λ _. lanes-multiply table c.args.axis.0 whole c.requires.axis (subst (λ g. ProductsFit g.cells) c.view.ensures.same all), λ _. refl)

pub returns-then-products_fit-clause-selections : goal.returns-then-products_fit-clause-selections
returns-then-products_fit-clause-selections c =
    let table = c.args.table.now in
    let fits : IsSummable int_products (FitsSigned w64) c.view.result.cells = search rules in
    let whole : IsGrid table = subst IsGrid c.view.ensures.same c.view.ensures.whole in
    λ _. lanes-summable table whole c.args.axis.0 c.requires.axis int_products (FitsSigned w64) (λ z. z) (subst (λ g. IsSummable int_products (FitsSigned w64) g.cells) c.view.ensures.same fits)
