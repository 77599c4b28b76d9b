use Rattle.std.proofs.Common.{◌∙◌, ap}
use Rattle.ndarray.specs.Grid.{array_by}
use Rattle.ndarray.proofs.boxes.ShiftedBoxes.{lists-own}
use Rattle.ndarray.proofs.base.indices.indices.Goals as goal

pub returns-clause-items : goal.returns-clause-items
returns-clause-items g c = λ is b x. lists-own c.of.result _ (c.of.ensures ∙ ap (λ ns. array_by ns (λ js. js)) c.into_dimension.ensures) is b _
