use Rattle.std.proofs.Common.{Some}
use Rattle.ndarray.proofs.cells.LaneProducts.{come-next}
use Rattle.ndarray.proofs.reduce.along_axis_range_tests.cells_cumulate.Goals as goal

pub loop-x-preserved : goal.loop-x-preserved
loop-x-preserved g c =
    let x = c.in-Some-next.x.now in
    let p = c.loop-x.product in
    let checked = g.met.A.CheckedMul.checked_mul_law x p (Some c.in-Some-checked_mul.next) c.in-Some-checked_mul.ensures in
    come-next g.A.Number.value g.A.Number.fits c.args.cells p c.loop-x.cells x c.next-in-loop-x.new.self c.in-Some-next.ensures c.loop-x.invariant c.in-Some-checked_mul.next checked.0 checked.1
