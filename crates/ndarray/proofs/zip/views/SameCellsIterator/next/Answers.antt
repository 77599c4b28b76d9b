use Rattle.std.proofs.Common.{◌∙◌, arith, sym}
use Rattle.ndarray.proofs.strides.SamePlaces.{replicate-some}
use Rattle.ndarray.proofs.zip.views.SameCellsIterator.next.Goals as goal

pub returns-clause-steps : goal.returns-clause-steps
returns-clause-steps g c = sym c.self.view_is ∙ replicate-some c.self.inside.cell.now c.self.inside.left (omega (arith, c.if-self-eq0.false))
