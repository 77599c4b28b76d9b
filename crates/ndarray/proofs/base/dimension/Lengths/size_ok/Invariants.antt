use Rattle.std.proofs.Common.{◌≡◌, ◌<◌, ◌^◌, take}
use Rattle.ndarray.specs.Limits.{nonzero_size}
use Rattle.ndarray.proofs.base.dimension.Lengths.size_ok.Given as goal

abbrev pub invariant-loop-axis : goal.invariant-loop-axis
invariant-loop-axis g l = record {
  some : 0 < l.product;
  fits : l.product < 2 ^ 63;
  product : l.product ≡ nonzero_size (take l.axis (g.Self.Lengths.numbers l.self));
}
