use Rattle.std.proofs.Common.{◌≡◌, of_z, rules, to_z, w32}
use Rattle.ndarray.proofs.ops.div.I32DivArrayI32.div.Goals as goal

pub combine_left_scalar_in_place-requires : goal.combine_left_scalar_in_place-requires
combine_left_scalar_in_place-requires g c = let back : to_z w32 (of_z w32 c.args.self) ≡ c.args.self = search rules in rw back c.requires

pub returns : goal.returns
returns g c = let back : to_z w32 (of_z w32 c.args.self) ≡ c.args.self = search rules in rw back at c.combine_left_scalar_in_place.ensures
