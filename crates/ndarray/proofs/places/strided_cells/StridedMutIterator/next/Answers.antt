use Rattle.std.proofs.Common.{rules, ◌∙◌, ap, sym, length}
use Rattle.ndarray.specs.base.Slots.{held_at}
use Rattle.ndarray.proofs.moving.BorrowedCells.{lent_at-rest, found-first}
use Rattle.ndarray.proofs.places.strided_cells.StridedMutIterator.next.Goals as goal

pub invariant_of-self-2 : goal.invariant_of-self-2
invariant_of-self-2 g c = lent_at-rest (held_at c.self.inside.region.slots) _ c.in-Some.place c.take.ensures.rest c.self.inside.places c.next.new.self c.take.result.now c.self.invariant c.take.ensures.value c.in-Some.ensures

pub returns-clause-steps : goal.returns-clause-steps
returns-clause-steps g c =
    sym c.self.view_is
    ∙ found-first (held_at c.self.inside.region.slots) _ c.in-Some.place c.take.ensures.rest c.self.inside.places c.next.new.self c.take.result.now c.self.invariant c.take.ensures.value c.in-Some.ensures

pub returns-clause-goes : goal.returns-clause-goes
returns-clause-goes g c = let e = ap length (returns-clause-steps g c) in search rules
