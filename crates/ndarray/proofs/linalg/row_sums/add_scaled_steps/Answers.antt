use Rattle.std.proofs.Common.{◌∙◌, ap, arith, length, sym}
use Rattle.std.proofs.lemmas.List.{length-drop}
use Rattle.ndarray.proofs.sums.RowSums.{AddedTo-all}
use Rattle.ndarray.proofs.linalg.row_sums.add_scaled_steps.Goals as goal

pub returns : goal.returns
returns g c =
    let none = ap length (sym c.loop-cell.invariant.left ∙ c.in_default.ensures.0) in
    let left = length-drop c.loop-cell.j c.args.row in
    AddedTo-all g.A.Valued c.args.x c.args.row c.args.sums.now c.loop-cell.sums c.loop-cell.j c.loop-cell.invariant.added (omega (arith, none, left))
