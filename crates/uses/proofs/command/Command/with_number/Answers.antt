use Rattle.ndarray.proofs.Common.{◌∷◌, [], ap, refl}
use Rattle.uses.proofs.command.Command.with_number.Goals as goal

pub returns-in_ok-count-in-recurrence-clause-spelled : goal.returns-in_ok-count-in-recurrence-clause-spelled
returns-in_ok-count-in-recurrence-clause-spelled c = record {
  arguments = c.args.number.now ∷ [];
  named = ap (λ w. w ∷ c.args.number.now ∷ []) c.in-recurrence.is;
  numbered = record { word = c.args.number.now; one = refl; spelled = c.in_ok-count-in-recurrence.ensures.0; value = c.in_ok-count-in-recurrence.ensures.1 };
}
