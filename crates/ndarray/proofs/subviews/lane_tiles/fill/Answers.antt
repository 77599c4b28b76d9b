use Rattle.std.proofs.Common.{◌∙◌, ap, arith, replicate}
use Rattle.ndarray.proofs.lists.Elements.{replicate-is}
use Rattle.ndarray.proofs.subviews.lane_tiles.fill.Goals as goal

pub returns : goal.returns
returns g c =
    let many = c.loop-t.auto.values in
    let full = c.loop-t-test.false in
    replicate-is c.args.value c.loop-t.values (λ j d lt. c.loop-t.invariant j d (omega (arith, lt, many, full))) ∙ ap (λ n. replicate n c.args.value) many
