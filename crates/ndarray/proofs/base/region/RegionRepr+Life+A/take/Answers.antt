use Rattle.std.proofs.Common.{◌∙◌}
use Rattle.ndarray.proofs.regions.Slots.{slots_in-only, slots_outside-itself, slots_outside-only}
use Rattle.ndarray.proofs.base.region.RegionRepr+Life+A.take.Goals as goal

pub into_mut-requires : goal.into_mut-requires
into_mut-requires g c = (c.requires.0, rw (c.split-one.ensures.first, c.replace-whole.ensures.value) (slots_in-only c.args.self.now.slots c.args.place ∙ c.requires.1))

pub returns-clause-value : goal.returns-clause-value
returns-clause-value g c = rw (← slots_in-only c.args.self.now.slots c.args.place, ← c.replace-whole.ensures.value, ← c.split-one.ensures.first) c.into_mut.ensures.value

pub returns-clause-rest : goal.returns-clause-rest
returns-clause-rest g c = λ p other. rw (c.split-one.ensures.second, c.replace-whole.ensures.value) (slots_outside-only c.args.self.now.slots c.args.place p other)

pub returns-clause-gone : goal.returns-clause-gone
returns-clause-gone g c = rw (c.split-one.ensures.second, c.replace-whole.ensures.value) (slots_outside-itself c.args.self.now.slots c.args.place)
