use Rattle.ndarray.proofs.Common.{◌≡◌, ◌↔◌, ◌∙◌, ◌∷◌, [], Some, ap, subst, Err, IfOk, shape_error, concatenate_error, concatenation, shapes_of, axis_inserted}
use Rattle.ndarray.specs.declared.base.error.ErrorKind.{ErrorKind}
use Rattle.ndarray.specs.declared.stacking.error.StackError.TheVariants.{Shape}
use Rattle.uses.proofs.report.with_row_below.Goals as goal

pub returns-clause-cells : goal.returns-clause-cells
returns-clause-cells c =
    let below = c.insert_axis-below.ensures.value ∙ ap (λ v. axis_inserted v 0) c.view.ensures.same in
    subst (λ g. IfOk c.concatenate.result (λ t. t ≡ concatenation 0 (g ∷ axis_inserted c.args.row.now 0 ∷ []))) c.view-above.ensures.same
    (subst (λ h. IfOk c.concatenate.result (λ t. t ≡ concatenation 0 (c.view-above.result ∷ h ∷ []))) below c.concatenate.ensures.cells)

pub returns-clause-errors : goal.returns-clause-errors
returns-clause-errors c =
    let below = c.insert_axis-below.ensures.value ∙ ap (λ v. axis_inserted v 0) c.view.ensures.same in
    subst (λ g. (k : ErrorKind) → (c.concatenate.result ≡ Err (Shape (shape_error k))) ↔ (concatenate_error 0 (shapes_of (g ∷ axis_inserted c.args.row.now 0 ∷ [])) ≡ Some k)) c.view-above.ensures.same
    (subst (λ h. (k : ErrorKind) → (c.concatenate.result ≡ Err (Shape (shape_error k))) ↔ (concatenate_error 0 (shapes_of (c.view-above.result ∷ h ∷ [])) ≡ Some k)) below c.concatenate.ensures.errors)
