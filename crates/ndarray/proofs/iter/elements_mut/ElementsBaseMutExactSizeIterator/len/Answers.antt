use Rattle.std.proofs.Common.{ap, length, arith}
use Rattle.ndarray.specs.base.Slots.{held_at}
use Rattle.ndarray.proofs.moving.BorrowedCells.{length-lent_at}
use Rattle.ndarray.proofs.iter.elements_mut.ElementsBaseMutExactSizeIterator.len.Goals as goal

pub returns-clause-value : goal.returns-clause-value
returns-clause-value g c =
    let l = length-lent_at (held_at c.self.inside.region.slots) c.self.inside.places c.self.invariant in
    let v = ap (λ s. length s.items) c.self.view_is in
    let n = c.len.ensures in
    omega arith
