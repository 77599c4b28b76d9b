use Rattle.std.proofs.Common.{◌≡◌, of_z, rules, to_z, w64}
use Rattle.ndarray.proofs.ops.rem.I64RemRefArrayI64.rem.Goals as goal

pub combine_left_scalar-requires : goal.combine_left_scalar-requires
combine_left_scalar-requires g c = let back : to_z w64 (of_z w64 c.args.self) ≡ c.args.self = search rules in rw back c.requires

pub returns : goal.returns
returns g c = let back : to_z w64 (of_z w64 c.args.self) ≡ c.args.self = search rules in rw back at c.combine_left_scalar.ensures
