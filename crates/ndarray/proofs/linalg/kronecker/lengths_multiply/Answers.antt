use Rattle.std.proofs.Common.{◌*◌, [], ◌∷◌, arith}
use Rattle.ndarray.proofs.boxes.Sizes.{length-fits}
use Rattle.ndarray.proofs.lists.Decisions.{says_no}
use Rattle.ndarray.proofs.linalg.kronecker.lengths_multiply.Goals as goal

pub returns-in_default : goal.returns-in_default
returns-in_default c =
    says_no _ (λ h. let k = length-fits (c.args.left.0 * c.args.right.0 ∷ c.args.left.1 * c.args.right.1 ∷ []) 0 (omega arith) h in c.in_default.ensures (omega (arith, k)))
