use Rattle.std.proofs.Common.{rules, ◌≡◌, ◌∷◌, to_z, of_z, subst}
use Rattle.std.specs.Prelude.{FitsSigned, ◌*ℤ◌}
use Rattle.std.specs.Int.{w64}
use Rattle.ndtables.proofs.RunningProducts.{SameToCome, come-next}
use Rattle.ndtables.proofs.reducing.lane_cumulates.Goals as goal

pub loop-cell-preserved : goal.loop-cell-preserved
loop-cell-preserved c =
    let x = c.in-Some-cell.cell.now in
    let p = c.loop-cell.product in
    let now : c.loop-cell.cell-iterator ≡ x ∷ c.next-in-loop-cell.new.self = c.in-Some-cell.ensures.steps in
    let fits : FitsSigned w64 (x *ℤ p) = search (rules, c.in-Some-checked_mul.ensures) in
    let next : to_z w64 (of_z w64 c.in-Some-checked_mul.next) ≡ x *ℤ p = search (rules, c.in-Some-checked_mul.ensures, fits) in
    let come : SameToCome c.args.lane.now.cells p c.loop-cell.cell-iterator = subst (λ z. SameToCome c.args.lane.now.cells z c.loop-cell.cell-iterator) c.loop-cell.product-is c.loop-cell.invariant in
    come-next c.args.lane.now.cells p c.loop-cell.cell-iterator x c.next-in-loop-cell.new.self now come (to_z w64 (of_z w64 c.in-Some-checked_mul.next)) fits next
