use Rattle.std.proofs.Common.{◌∙◌, ap, sym, arith, set, length}
use Rattle.ndarray.proofs.joining.OuterAxes.{length-ones_between, ones-all, ones-more, ones-none, ones_between}
use Rattle.ndarray.proofs.stacking.shapes.outer_dim.Goals as goal

pub loop-k-init : goal.loop-k-init
loop-k-init g c = sym (ones-none c.args.axis (g.D.Lengths.numbers c.args.dim))

pub set_axis-requires : goal.set_axis-requires
set_axis-requires g c =
    let l = ap length c.loop-k.invariant ∙ length-ones_between c.args.axis c.loop-k.k (g.D.Lengths.numbers c.args.dim) in
    let t = c.loop-k-test.true in
    let v = c.ndim-k-end.ensures.value in
    omega arith

pub loop-k-preserved : goal.loop-k-preserved
loop-k-preserved g c =
    let ns = g.D.Lengths.numbers c.args.dim in
    let t = c.loop-k-test.true in
    let v = c.ndim-k-end.ensures.value in
    let a = c.loop-k.auto.k in
    c.set_axis.ensures
    ∙ (ap (λ l. set l c.loop-k.k 1) c.loop-k.invariant
    ∙ (ones-more c.args.axis c.loop-k.k ns (omega arith) (omega arith) ∙ ap (λ k. ones_between c.args.axis k ns) (omega arith)))

pub returns : goal.returns
returns g c =
    let t = c.loop-k-test.false in
    let v = c.ndim-k-end.ensures.value in
    c.loop-k.invariant ∙ ones-all c.args.axis c.loop-k.k (g.D.Lengths.numbers c.args.dim) (omega arith)
