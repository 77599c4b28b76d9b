use Rattle.ndarray.proofs.Common.{◌≡◌, subst, IfSome, HasMatrix, identity_matrix, int_products, int_sums, matrix_of, if_ok-both, if_some-both, kronecker-same, made-matrix, made-same, own-matrix, same-self, same-then, i64_values}
use Rattle.ndarray_examples.proofs.matrix_laws.kronecker_with_one.Goals as goal

pub returns : goal.returns
returns g c =
    let e = i64_values in
    let a = c.args.a.now in
    let id = identity_matrix int_sums int_products 1 in
    let one : HasMatrix e id c.in-Some.one = subst (λ o. IfSome o (HasMatrix e id)) c.in-Some.is c.in_ok-one.ensures.matrix in
    let same = same-then _ _ _ (kronecker-same e (matrix_of e c.in-Some.one) (matrix_of e a) id (matrix_of e a) (made-matrix e id c.in-Some.one one) (same-self (matrix_of e a))) (c.kron_identity.ensures.one (matrix_of e a)).0 in
    if_ok-both c.checked_kronecker_product.result _ _ _
    (λ o when product. if_some-both o _ _ (λ r. r ≡ a) (λ r made again. made-same e (λ x y h. h) _ (matrix_of e a) same r a made (own-matrix e a c.raw_dim-lengths.ensures.whole c.raw_dim-lengths.ensures.axes)) product product)
    c.checked_kronecker_product.ensures.when c.checked_kronecker_product.ensures.product
