use Rattle.std.proofs.Common.{◌≡◌, of_z, rules, to_z, w32}
use Rattle.ndarray.proofs.ops.shr.I32ShrArrayI32.shr.Goals as goal

pub returns : goal.returns
returns g c = let back : to_z w32 (of_z w32 c.args.self) ≡ c.args.self = search rules in rw back at c.combine_left_scalar_in_place.ensures
