use Rattle.std.proofs.Common.{[]}
use Rattle.ndarray.proofs.sums.SeveralRows.{AddsRows-none, others-added, others-can_add}
use Rattle.ndarray.proofs.linalg.row_sums.add_four.Goals as goal

pub returns : goal.returns
returns g c =
    let v = g.A.Valued in
    let b = c.args.b in
    let d = c.args.d in
    let w = c.args.c in
    let first = others-can_add v c.args.a.number c.args.a.cells _ c.args.sums.now c.requires c.add_scaled.new.sums c.add_scaled.ensures in
    let second = others-can_add v b.number b.cells _ c.add_scaled.new.sums first c.add_scaled-2.new.sums c.add_scaled-2.ensures in
    let third = others-can_add v w.number w.cells _ c.add_scaled-2.new.sums second c.add_scaled-3.new.sums c.add_scaled-3.ensures in
    others-added v c.args.a.number c.args.a.cells _ c.args.sums.now c.requires c.add_scaled.new.sums c.add_scaled.ensures c.add_scaled-4.new.sums
    (others-added v b.number b.cells _ c.add_scaled.new.sums first c.add_scaled-2.new.sums c.add_scaled-2.ensures c.add_scaled-4.new.sums
    (others-added v w.number w.cells _ c.add_scaled-2.new.sums second c.add_scaled-3.new.sums c.add_scaled-3.ensures c.add_scaled-4.new.sums
    (others-added v d.number d.cells [] c.add_scaled-3.new.sums third c.add_scaled-4.new.sums c.add_scaled-4.ensures c.add_scaled-4.new.sums (AddsRows-none v c.add_scaled-4.new.sums))))
