use Rattle.ndarray.proofs.Common.{HasMatrix, if_ok-both, if_some-both, i64_values}
use Rattle.ndarray_examples.proofs.KroneckersOfThree.{IsProduct, blocks, given, three-made}
use Rattle.ndarray_examples.proofs.matrix_laws.mixed_product_of_three.Goals as goal

pub returns : goal.returns
returns c =
    let n = c.args in
    let ad = given (IsProduct n.a.now n.d.now) _ c.in-Some.ad c.in-Some.is c.in_ok-ad.ensures in
    let be = given (IsProduct n.b.now n.e.now) _ c.in-Some-2.be c.in-Some-2.is c.in_ok-be.ensures in
    let cf = given (IsProduct n.c.now n.f.now) _ c.in-Some-3.cf c.in-Some-3.is c.in_ok-cf.ensures in
    let rest = given (HasMatrix i64_values (blocks c.in-Some-2.be c.in-Some-3.cf)) _ c.in-Some-4.rest c.in-Some-4.is c.in_ok-rest.ensures.product in
    if_ok-both c.checked_kronecker_product-2.result _ _ _
    (λ o p q. if_some-both o _ _ _ (λ r h again. three-made c.kron_mixed_all.ensures n.a.now n.b.now n.c.now n.d.now n.e.now n.f.now c.in-Some.ad c.in-Some-2.be c.in-Some-3.cf c.in-Some-4.rest r ad be cf rest h) q q)
    c.checked_kronecker_product-2.ensures.product c.checked_kronecker_product-2.ensures.product
