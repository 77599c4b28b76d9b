use Rattle.std.proofs.Common.{arith}
use Rattle.ndarray.proofs.moving.SomePlaces.{slice-distinct, slice-found}
use Rattle.ndarray.proofs.places.strided_cells.StridedMut.over.Goals as goal

pub invariant_of-result : goal.invariant_of-result
invariant_of-result g c = slice-distinct c.of.result.slots c.args.slice.now c.of.ensures.value (omega arith)

pub returns : goal.returns
returns g c = slice-found c.of.result.slots c.args.slice.now c.of.ensures.value (omega arith)
