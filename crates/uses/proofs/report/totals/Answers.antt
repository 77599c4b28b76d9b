use Rattle.ndarray.proofs.Common.{rules, ◌≡◌, ◌∙◌, ap, arith, of_z, refl, remove, sym, to_z, FitsSigned, w64, to_z-of_z, array_by, int_sums, total, two-lengths}
use Rattle.uses.specs.Report.{column_total, row_total}
use Rattle.uses.proofs.Reports.{is-axis, lane-sums}
use Rattle.uses.proofs.report.totals.Goals as goal

pub sum-all-requires : goal.sum-all-requires
sum-all-requires g c =
    let t = c.view-table in
    (c.axis_sums.ensures.arrays t.result c.in_ok-rows.rows 1 t.ensures.whole (is-axis _ _ t.ensures.same t.ensures.axes 1 (omega arith)) c.in_ok-rows.ensures.sums.made).1 (c.if-not-sums_fit.ensures.selections.0 refl)

pub returns-clause-rows : goal.returns-clause-rows
returns-clause-rows g c =
    let table = c.args.table.now in
    lane-sums _ table c.view-table.ensures.same c.view-table.ensures.axes 1 (omega arith) c.in_ok-rows.rows c.in_ok-rows.ensures.sums.made
    ∙ ap (λ ns. array_by (remove ns 1) (row_total table)) (two-lengths table.lengths c.view-table.ensures.axes)

pub returns-clause-columns : goal.returns-clause-columns
returns-clause-columns g c =
    let table = c.args.table.now in
    lane-sums _ table c.view-table.ensures.same c.view-table.ensures.axes 0 (omega arith) c.in_ok-columns.columns c.in_ok-columns.ensures.sums.made
    ∙ ap (λ ns. array_by (remove ns 0) (column_total table)) (two-lengths table.lengths c.view-table.ensures.axes)

pub returns-clause-agree : goal.returns-clause-agree
returns-clause-agree g c =
    let t = c.view-table in
    let rows = (c.axis_sums.ensures.arrays t.result c.in_ok-rows.rows 1 t.ensures.whole (is-axis _ _ t.ensures.same t.ensures.axes 1 (omega arith)) c.in_ok-rows.ensures.sums.made).0 in
    let columns = (c.axis_sums.ensures.arrays t.result c.in_ok-columns.columns 0 t.ensures.whole (is-axis _ _ t.ensures.same t.ensures.axes 0 (omega arith)) c.in_ok-columns.ensures.sums.made).0 in
    let all : total int_sums c.in_ok-rows.rows.cells ≡ to_z w64 (of_z w64 c.sum-all.result) = search (rules, to_z-of_z, c.sum-all.ensures) in
    (all, columns ∙ (sym rows ∙ all))
