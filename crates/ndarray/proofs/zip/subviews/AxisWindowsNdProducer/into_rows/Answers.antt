use Rattle.std.proofs.Common.{◌≡◌, ◌∷◌, [], ◌∙◌, ap, length, subst, sym}
use Rattle.ndarray.specs.Grid.{IsGrid}
use Rattle.ndarray.specs.Index.{size}
use Rattle.ndarray.specs.Orders.{cells_in}
use Rattle.ndarray.specs.order.Rows.{some_unless_none}
use Rattle.ndarray.proofs.runs.OneAxisProducers.{cells_in-one_axis, one_axis-whole}
use Rattle.ndarray.proofs.runs.Producers.{YieldsInTurn-cells}
use Rattle.ndarray.proofs.runs.Rows.{RowsInTurn-one}
use Rattle.ndarray.proofs.zip.subviews.AxisWindowsNdProducer.into_rows.Goals as goal

pub returns-clause-gives : goal.returns-clause-gives
returns-clause-gives g c =
    let o = c.args._order in
    let xs = c.self.inside.pieces.cells in
    let all = c.into_iter.result in
    let many : c.size-len.result ≡ length xs = c.size-len.ensures ∙ (ap size c.raw_dim.ensures.lengths ∙ sym c.raw_dim.ensures.whole) in
    let lengths : c.args.self.lengths ≡ length xs ∷ [] = ap (λ v. v.lengths) (sym c.self.view_is) in
    let row = YieldsInTurn-cells (λ x. x) c.args.self (λ rest. rest) o {s = all} (subst IsGrid c.self.view_is (one_axis-whole xs)) (c.into_iter.ensures.into_iter_gives.0 ∙ (sym (cells_in-one_axis o xs) ∙ ap (cells_in o) c.self.view_is)) in
    rw lengths (RowsInTurn-one _ o (length xs) _ all (rw (← lengths) row) (c.rows_of_axis.ensures ∙ ap (λ k. some_unless_none k all) many))
