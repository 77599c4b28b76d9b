use Rattle.std.proofs.Common.{◌++◌, inl, inr, subst}
use Rattle.ndarray.specs.Integers.{int_products}
use Rattle.ndarray.specs.reduce.SignedSums.{ProductsApart}
use Rattle.ndarray.proofs.sums.InnerSums.{products-ended, products-next}
use Rattle.ndarray.proofs.reduce.range_tests.add_stepped_products.Goals as goal

pub loop-x-preserved : goal.loop-x-preserved
loop-x-preserved g c =
    let v = g.A.Number.value in
    let next = products-next int_products v c.loop-x.pairs.first c.loop-x.pairs.second c.next.new.self.first c.next.new.self.second c.in-Some.x.now c.in-Some.y.now c.in-Some.ensures.steps.0 c.in-Some.ensures.steps.1 in
    λ whole rest h. c.in-Some-add_product.ensures whole _ (subst (λ l. ProductsApart g.A.Number.fits whole (l ++ rest) (v c.loop-x.sums.up) (v c.loop-x.sums.down)) next (c.loop-x.invariant whole rest h))

pub returns-in_default-add_product : goal.returns-in_default-add_product
returns-in_default-add_product g c =
    let v = g.A.Number.value in
    let next = products-next int_products v c.loop-x.pairs.first c.loop-x.pairs.second c.next.new.self.first c.next.new.self.second c.in-Some.x.now c.in-Some.y.now c.in-Some.ensures.steps.0 c.in-Some.ensures.steps.1 in
    λ whole rest h. c.in_default-add_product.ensures whole _ (subst (λ l. ProductsApart g.A.Number.fits whole (l ++ rest) (v c.loop-x.sums.up) (v c.loop-x.sums.down)) next (c.loop-x.invariant whole rest h))

pub returns : goal.returns
returns g c =
    let v = g.A.Number.value in
    let none = products-ended int_products v c.loop-x.pairs.first c.loop-x.pairs.second (elim c.in_default.ensures.steps [ inl w ↦ inl w.1.0 | inr w ↦ inr w.1.0 ]) in
    λ whole rest h. subst (λ l. ProductsApart g.A.Number.fits whole (l ++ rest) (v c.loop-x.sums.up) (v c.loop-x.sums.down)) none (c.loop-x.invariant whole rest h)
