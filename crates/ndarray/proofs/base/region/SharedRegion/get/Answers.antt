use Rattle.std.proofs.Common.{◌∷◌, [], arith}
use Rattle.ndarray.proofs.regions.Slots.{filled_within, run-one}
use Rattle.ndarray.proofs.base.region.SharedRegion.get.Goals as goal

pub slice-run-requires : goal.slice-run-requires
slice-run-requires g c = let inside = filled_within c.args.self.now.slots c.args.place c.requires.0 c.requires.1 in (omega (arith, inside), (c.requires.0 ∷ [], run-one c.args.self.now.slots c.args.place c.requires.0 c.requires.1))
