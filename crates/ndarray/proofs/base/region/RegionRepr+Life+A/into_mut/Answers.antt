use Rattle.std.proofs.Common.{◌∷◌, [], arith}
use Rattle.ndarray.proofs.regions.Slots.{filled_within, run-one}
use Rattle.ndarray.proofs.base.region.RegionRepr+Life+A.into_mut.Goals as goal

pub into_slice-run-requires : goal.into_slice-run-requires
into_slice-run-requires g c = let inside = filled_within c.args.self.slots c.args.place c.requires.0 c.requires.1 in (omega (arith, inside), (c.requires.0 ∷ [], run-one c.args.self.slots c.args.place c.requires.0 c.requires.1))
