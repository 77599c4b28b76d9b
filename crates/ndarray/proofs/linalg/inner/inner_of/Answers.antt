use Rattle.std.proofs.Common.{◌∙◌, ap, arith, inl, length, refl}
use Rattle.ndarray.proofs.sums.InnerSums.{inner-added, inner-end, inner-next, inner-product, inner-start}
use Rattle.ndarray.proofs.linalg.inner.inner_of.Goals as goal

pub loop-x-init : goal.loop-x-init
loop-x-init g c =
    let v = g.A.Valued in
    inner-start v.addition v.multiplication v.InRange v.meaning c.args.left c.args.right c.args.left c.args.right _ refl refl (ap v.meaning c.zero-sum.ensures ∙ g.met.A.SumElem.zero_meaning) c.requires.same c.requires.sums

pub add_product-sum-requires-clause-product : goal.add_product-sum-requires-clause-product
add_product-sum-requires-clause-product g c κs within =
    let v = g.A.Valued in
    inner-product v.addition v.multiplication v.InRange v.meaning c.args.left c.args.right c.loop-x.xs c.loop-x.ys c.next.new.self c.next-in-Some-next.new.self c.in-Some-next.x.now c.in-Some-next-2.y.now (v.meaning c.loop-x.sum)
    c.in-Some-next.ensures c.in-Some-next-2.ensures c.loop-x.invariant

pub add_product-sum-requires-clause-added : goal.add_product-sum-requires-clause-added
add_product-sum-requires-clause-added g c κs within =
    let v = g.A.Valued in
    inner-added v.addition v.multiplication v.InRange v.meaning c.args.left c.args.right c.loop-x.xs c.loop-x.ys c.next.new.self c.next-in-Some-next.new.self c.in-Some-next.x.now c.in-Some-next-2.y.now (v.meaning c.loop-x.sum)
    c.in-Some-next.ensures c.in-Some-next-2.ensures c.loop-x.invariant

pub loop-x-preserved : goal.loop-x-preserved
loop-x-preserved g c =
    let v = g.A.Valued in
    inner-next v.addition v.multiplication v.InRange v.meaning c.args.left c.args.right c.loop-x.xs c.loop-x.ys c.next.new.self c.next-in-Some-next.new.self c.in-Some-next.x.now c.in-Some-next-2.y.now (v.meaning c.loop-x.sum)
    c.in-Some-next.ensures c.in-Some-next-2.ensures c.loop-x.invariant (v.meaning c.add_product-sum.result) c.add_product-sum.ensures

pub returns : goal.returns
returns g c =
    let v = g.A.Valued in
    inner-end v.addition v.multiplication v.InRange v.meaning c.args.left c.args.right c.loop-x.xs c.loop-x.ys _ (inl c.in_default-next.ensures.0) c.loop-x.invariant

pub unreachable-requires : goal.unreachable-requires
unreachable-requires g c =
    let same = c.loop-x.invariant.same in
    let first = ap length c.in-Some-next.ensures in
    let second = ap length c.in_default-next-2.ensures.0 in
    omega (arith, same, first, second)
