use Rattle.ndarray.proofs.moving.SomePlaces.{left-distinct, left-same, taken-distinct, taken-found}
use Rattle.ndarray.proofs.places.strided_cells.StridedMut.taken_from.Goals as goal

pub invariant_of-result : goal.invariant_of-result
invariant_of-result g c = rw (c.split-here.ensures.first, c.replace-whole.ensures.value) (taken-distinct c.args.region.now.slots c.args.places c.requires)

pub returns-clause-value : goal.returns-clause-value
returns-clause-value g c = rw (c.split-here.ensures.first, c.replace-whole.ensures.value) (taken-found c.args.region.now.slots c.args.places)

pub returns-clause-others : goal.returns-clause-others
returns-clause-others g c rest both =
    rw (c.split-here.ensures.second, c.replace-whole.ensures.value)
    (left-distinct c.args.region.now.slots c.args.places rest both, left-same c.args.region.now.slots c.args.places rest both)
