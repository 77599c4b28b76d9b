use Rattle.std.proofs.Common.{rules, ℤ, ◌∙◌, refl, sym}
use Rattle.ndarray.specs.Grid.{Grid}
use Rattle.ndtables.specs.Reducing.{CanCumulateList}
use Rattle.ndtables.proofs.EmptyLanes.{empty-lanes}
use Rattle.ndtables.proofs.RunningProducts.{come-none}
use Rattle.ndarray.proofs.callers.Testing.{tested-cells}
use Rattle.ndtables.proofs.reducing.running_products_fit.Goals as goal

pub returns : goal.returns
returns c =
    let fits = λ (lane : Grid ℤ). CanCumulateList lane.cells in
    let (o, ran) = c.all.ensures.ran in
    let told = tested-cells _ _ _ _ fits _ c.from.result.nested (c.from.ensures ∙ c.lanes.ensures) o c.all.result ran (λ is k turn. (search rules, (turn.0, turn.1, search (rules, turn.2)))) in
    told (λ is stop. (stop.2.0, (stop.0, stop.1, λ fit. absurd (search (rules, stop.2.1.1, fit))))) (λ end. end)

pub returns-then-len-eq0 : goal.returns-then-len-eq0
returns-then-len-eq0 c =
    let lanes = empty-lanes (λ lane. CanCumulateList lane.cells) (λ lane e. come-none lane.cells e)
    c.args.table.now c.args.axis.0 (sym c.len.ensures.cells ∙ c.len.ensures.size) (sym c.len.ensures.cells ∙ c.if-len-eq0.true) c.requires.axis in
    (λ _. lanes, λ _. refl)
