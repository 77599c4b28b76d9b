use Rattle.std.proofs.Common.{◌≡◌, of_z, rules, to_z, w64}
use Rattle.ndarray.proofs.ops.add.I64AddArrayI64.add.Goals as goal

pub returns : goal.returns
returns g c = let back : to_z w64 (of_z w64 c.args.self) ≡ c.args.self = search rules in rw back at c.combine_left_scalar_in_place.ensures
