use Rattle.std.proofs.Common.{length}
use Rattle.ndarray.specs.places.ElementPlaces.{mask_at}
use Rattle.ndarray.proofs.places.strided_cells.StridedMut.taken_from.Given as goal

abbrev pub ghost-split : goal.ghost-split
ghost-split g a = mask_at a._by.now (length a.self.slots)
