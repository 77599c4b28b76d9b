use Rattle.std.proofs.Common.{◌≡◌, ◌≢◌, ◌*◌, ◌-◌, ◌%◌, ◌^◌, sym, ◌∙◌, ap, arith}
use Rattle.ndarray.specs.base.Nested.{distance, reach}
use Rattle.ndarray.proofs.strides.ForwardAxes.{below_first-up, below_first-down}
use Rattle.ndarray.proofs.base.place_map.below_first.Goals as goal

pub returns-then-m-stride : goal.returns-then-m-stride
returns-then-m-stride c = sym (below_first-up c.args.len c.args.stride (omega arith))

pub overflow_mul-result : goal.overflow_mul-result
overflow_mul-result c =
    let e : (c.args.len - 1) * c.distance-m.result ≡ reach c.args.len c.args.stride = ap (λ m. (c.args.len - 1) * m) c.distance-m.ensures in
    let n = c.requires.near in
    omega (arith, e, n)

pub returns-else-m-stride : goal.returns-else-m-stride
returns-else-m-stride c =
    let ne : distance c.args.stride ≢ c.args.stride % 2 ^ 64 = omega arith in
    ap (λ m. (c.args.len - 1) * m) c.distance-m.ensures ∙ sym (below_first-down c.args.len c.args.stride ne)
