use Rattle.ndarray.specs.base.Slots.{only_at}
use Rattle.ndarray.proofs.base.region.RegionRepr+Life+A.take.Given as goal

abbrev pub ghost-split : goal.ghost-split
ghost-split g a = only_at a._by.now
