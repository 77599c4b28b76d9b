use Rattle.ndarray.proofs.Common.{arith, if_ok-both}
use Rattle.ndarray_examples.proofs.DotsOfThree.{first-made, from-left, from-right, in-turn}
use Rattle.ndarray_examples.proofs.dots.product_in_turn.Goals as goal

pub returns-clause-when : goal.returns-clause-when
returns-clause-when g c =
    let one = first-made c.args.a.now c.args.b.now c.in_ok-first.field-0 c.in-Some.first c.in-Some.is c.in_ok-first.ensures.when c.in_ok-first.ensures.product in
    if_ok-both c.checked_dynamic_product-2.result _ _ _ (λ o when product. in-turn c.args.a.now c.args.b.now c.args.c.now c.in-Some.first one (omega (arith, c.if-ndim-lt2.false)) (omega (arith, c.if-ndim-ne2.false)) o when) c.checked_dynamic_product-2.ensures.when c.checked_dynamic_product-2.ensures.product

pub returns-clause-from_left : goal.returns-clause-from_left
returns-clause-from_left g c =
    let one = first-made c.args.a.now c.args.b.now c.in_ok-first.field-0 c.in-Some.first c.in-Some.is c.in_ok-first.ensures.when c.in_ok-first.ensures.product in
    if_ok-both c.checked_dynamic_product-2.result _ _ _ (λ o when product. from-left c.args.a.now c.args.b.now c.args.c.now c.in-Some.first one (omega (arith, c.if-ndim-lt2.false)) (omega (arith, c.if-ndim-ne2.false)) o when product) c.checked_dynamic_product-2.ensures.when c.checked_dynamic_product-2.ensures.product

pub returns-clause-from_right : goal.returns-clause-from_right
returns-clause-from_right g c =
    let one = first-made c.args.a.now c.args.b.now c.in_ok-first.field-0 c.in-Some.first c.in-Some.is c.in_ok-first.ensures.when c.in_ok-first.ensures.product in
    if_ok-both c.checked_dynamic_product-2.result _ _ _ (λ o when product. from-right c.args.a.now c.args.b.now c.args.c.now c.in-Some.first one (omega (arith, c.if-ndim-lt2.false)) (omega (arith, c.if-ndim-ne2.false)) o when c.dot_assoc.ensures c.raw_dim.ensures.whole c.raw_dim-2.ensures.whole c.raw_dim-3.ensures.whole product) c.checked_dynamic_product-2.ensures.when c.checked_dynamic_product-2.ensures.product
