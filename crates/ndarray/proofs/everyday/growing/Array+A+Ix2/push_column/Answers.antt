use Rattle.std.proofs.Common.{◌≡◌, ◌↔◌, [], ◌∷◌, Err, Some, subst}
use Rattle.ndarray.specs.Errors.{shape_error}
use Rattle.ndarray.specs.Joining.{concatenate_error}
use Rattle.ndarray.specs.declared.base.error.ErrorKind.{ErrorKind}
use Rattle.ndarray.specs.declared.stacking.error.StackError.TheVariants.{Shape}
use Rattle.ndarray.proofs.everyday.growing.Array+A+Ix2.push_column.Goals as goal

pub returns-clause-errors : goal.returns-clause-errors
returns-clause-errors g c = subst (λ v. (k : ErrorKind) → (c.append.result ≡ Err (Shape (shape_error k))) ↔ (concatenate_error 1 (c.args.self.now.lengths ∷ v.lengths ∷ []) ≡ Some k)) c.insert_axis.ensures.value c.append.ensures.errors
