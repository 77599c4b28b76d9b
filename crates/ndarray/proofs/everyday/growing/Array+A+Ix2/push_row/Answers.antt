use Rattle.std.proofs.Common.{◌≡◌, ◌↔◌, [], ◌∷◌, Err, Some, refl, subst}
use Rattle.ndarray.specs.Errors.{shape_error}
use Rattle.ndarray.specs.Joining.{concatenate_error}
use Rattle.ndarray.specs.declared.base.error.ErrorKind.{ErrorKind}
use Rattle.ndarray.specs.declared.stacking.error.StackError.TheVariants.{Shape}
use Rattle.ndarray.proofs.callers.Collecting.{if_ok-both}
use Rattle.ndarray.proofs.joining.Appended.{row-appended}
use Rattle.ndarray.proofs.everyday.growing.Array+A+Ix2.push_row.Goals as goal

pub returns-clause-errors : goal.returns-clause-errors
returns-clause-errors g c = subst (λ v. (k : ErrorKind) → (c.append.result ≡ Err (Shape (shape_error k))) ↔ (concatenate_error 0 (c.args.self.now.lengths ∷ v.lengths ∷ []) ≡ Some k)) c.insert_axis.ensures.value c.append.ensures.errors

pub returns-clause-cells : goal.returns-clause-cells
returns-clause-cells g c =
    if_ok-both c.append.result _ _ _
    (λ _ value cells. row-appended c.args.self.now c.args.row c.insert_axis.result c.append.new.self c.raw_dim-whole.ensures.whole c.insert_axis.ensures.value value cells)
    c.append.ensures.value (c.append.ensures.first_axis refl)
