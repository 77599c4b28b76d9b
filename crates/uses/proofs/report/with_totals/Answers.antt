use Rattle.ndarray.proofs.Common.{rules, ◌≡◌, ◌∙◌, ◌+◌, ◌<◌, ◌∷◌, [], Some, ap, arith, length, refl, pos, remove, subst, sym, Err, FitsSigned, slice_index, w64, IsTotalOf, shape_error, array_by, cell, int_sums, concatenate_error, value_or, lane, total, lanes_of-some, lane-maps, first-and-rest, row-below}
use Rattle.ndarray.specs.declared.stacking.error.StackError.TheVariants.{Shape}
use Rattle.std.proofs.lemmas.Result.{err_from_is_err_and}
use Rattle.uses.specs.Report.{total_below}
use Rattle.uses.proofs.Reports.{is-axis}
use Rattle.uses.proofs.report.with_totals.Goals as goal

pub returns-clause-totals : goal.returns-clause-totals
returns-clause-totals g c =
    let v = c.view-table.result in
    let row = c.view.result in
    let totals = c.in_ok-totals.ensures.sums.made in
    let some : 0 < length v.lengths = is-axis _ _ c.view-table.ensures.same c.view-table.ensures.axes 0 (omega arith) in
    let lengths : row.lengths ≡ remove v.lengths 0 = ap (λ w. w.lengths) c.view.ensures.same ∙ (totals.lengths ∙ ap (λ w. w.lengths) (lanes_of-some v.lengths v 0 some)) in
    let long : v.lengths ≡ slice_index v.lengths 0 ∷ row.lengths = first-and-rest v.lengths some ∙ ap (λ ms. slice_index v.lengths 0 ∷ ms) (sym lengths) in
    row-below v row (slice_index v.lengths 0) c.view.ensures.whole long (λ is. value_or (λ x. x) (pos 0) (cell v is)) (λ js. total int_sums (lane v 0 js).cells)
    (λ is x e. ap (value_or (λ x. x) (pos 0)) (sym e))
    (λ js x e. lane-maps v 0 some (IsTotalOf int_sums (λ x. x)) c.in_ok-totals.totals totals js x (ap (λ w. cell w js) (sym c.view.ensures.same) ∙ e))
    c.in_ok-made.made c.in_ok-made.ensures.whole c.in_ok-made.ensures.cells
    ∙ (ap (λ ms. array_by ((slice_index v.lengths 0 + 1) ∷ ms) (total_below v)) lengths
    ∙ ap (λ w. array_by ((slice_index w.lengths 0 + 1) ∷ remove w.lengths 0) (total_below w)) c.view-table.ensures.same)

pub returns-in_err-made-clause-errors : goal.returns-in_err-made-clause-errors
returns-in_err-made-clause-errors g c k e =
    let v = c.view-table.result in
    let some : 0 < length v.lengths = is-axis _ _ c.view-table.ensures.same c.view-table.ensures.axes 0 (omega arith) in
    let lengths : c.view.result.lengths ≡ remove v.lengths 0 = ap (λ w. w.lengths) c.view.ensures.same ∙ (c.in_ok-totals.ensures.sums.made.lengths ∙ ap (λ w. w.lengths) (lanes_of-some v.lengths v 0 some)) in
    let p = err_from_is_err_and c.from_residual-in_err-made.result c.from_residual-in_err-made.ensures.1 in
    let own : c.with_row_below.result ≡ Err (Shape (shape_error k)) = search (rules, e, p.1, p.2) in
    subst (λ ns. concatenate_error 0 (ns ∷ (1 ∷ remove ns 0) ∷ []) ≡ Some k) (ap (λ w. w.lengths) c.view-table.ensures.same)
    (subst (λ ms. concatenate_error 0 (v.lengths ∷ (1 ∷ ms) ∷ []) ≡ Some k) lengths ((c.with_row_below.ensures.errors k).0 own))
