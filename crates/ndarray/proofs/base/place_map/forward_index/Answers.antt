use Rattle.std.proofs.Common.{◌≢◌, ◌%◌, ◌^◌, sym, arith}
use Rattle.ndarray.specs.base.Nested.{distance}
use Rattle.ndarray.proofs.strides.ForwardAxes.{forward_index-up, forward_index-down}
use Rattle.ndarray.proofs.base.place_map.forward_index.Goals as goal

pub returns-then-distance-stride : goal.returns-then-distance-stride
returns-then-distance-stride c = sym (forward_index-up c.args.len c.args.stride c.args.i (omega arith))

pub returns-else-distance-stride : goal.returns-else-distance-stride
returns-else-distance-stride c =
    let ne : distance c.args.stride ≢ c.args.stride % 2 ^ 64 = omega arith in
    sym (forward_index-down c.args.len c.args.stride c.args.i ne)
