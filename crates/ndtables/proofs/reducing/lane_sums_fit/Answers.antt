use Rattle.std.proofs.Common.{rules, ℤ, ◌∙◌, refl, subst}
use Rattle.std.specs.Prelude.{FitsSigned}
use Rattle.std.specs.Int.{w64}
use Rattle.ndarray.specs.Grid.{Grid, IsGrid}
use Rattle.ndarray.specs.Integers.{int_sums}
use Rattle.ndarray.specs.Sums.{IsSummable}
use Rattle.ndarray.proofs.callers.Lanes.{lanes-summable}
use Rattle.ndarray.proofs.callers.Testing.{tested-cells}
use Rattle.ndtables.proofs.reducing.lane_sums_fit.Goals as goal

pub returns : goal.returns
returns c =
    let fits = λ (lane : Grid ℤ). IsSummable int_sums (FitsSigned w64) lane.cells in
    let (o, ran) = c.all.ensures.ran in
    let told = tested-cells _ _ _ _ fits _ c.from.result.nested (c.from.ensures ∙ c.lanes.ensures) o c.all.result ran (λ is k turn. (search rules, (turn.0, turn.1, search (rules, turn.2)))) in
    told (λ is stop. (stop.2.0, (stop.0, stop.1, λ fit. absurd (search (rules, stop.2.1.1, fit))))) (λ end. end)

pub returns-then-sums_fit : goal.returns-then-sums_fit
returns-then-sums_fit c =
    let fits : IsSummable int_sums (FitsSigned w64) c.view.result.cells = search rules in
    let table = c.args.table.now in
    let all : IsSummable int_sums (FitsSigned w64) table.cells = subst (λ g. IsSummable int_sums (FitsSigned w64) g.cells) c.view.ensures.same fits in
    let whole : IsGrid table = subst IsGrid c.view.ensures.same c.view.ensures.whole in
    (λ _. lanes-summable table whole c.args.axis.0 c.requires.axis int_sums (FitsSigned w64) (λ z. z) all, λ _. refl)
