use Rattle.std.proofs.Common.{◌∙◌, ap}
use Rattle.std.specs.Prelude.{nat_eq}
use Rattle.std.specs.Cmp.Lexicographic.{pointwise}
use Rattle.ndarray.proofs.joining.Errors.{same-pointwise}
use Rattle.ndarray.proofs.stacking.shapes.is_same.Goals as goal

pub returns : goal.returns
returns g c =
    c.eq.ensures
    ∙ (ap (λ xs. pointwise nat_eq xs c.slice-2.result.now) c.slice.ensures.value
    ∙ (ap (pointwise nat_eq (g.D.Lengths.numbers c.args.first.now)) c.slice-2.ensures.value ∙ same-pointwise (g.D.Lengths.numbers c.args.first.now) (g.D.Lengths.numbers c.args.other.now)))
