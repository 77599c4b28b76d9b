use Rattle.ndarray.proofs.Common.{rules, ◌≡◌, false, true, refl, FitsSigned, w64}
use Rattle.ndarray_examples.proofs.SumsOfMatrices.{copy-adds, sum-made, sum-multiplies}
use Rattle.ndarray_examples.proofs.algebra.sum_of_products_by_one.Goals as goal

pub returns-then-not-entries_fit-clause-when : goal.returns-then-not-entries_fit-clause-when
returns-then-not-entries_fit-clause-when g c =
    let adds = copy-adds c.args.b.now c.args.c.now c.in_ok-copy.copy c.in_ok-sum.sum (c.in_ok-copy.ensures.same (λ x y h. h)) c.in_ok-copy.ensures.whole c.raw_dim-3.ensures.whole (search rules) c.in_ok-sum.ensures.made in
    (λ off. absurd (search rules), λ given. absurd (let yes : false ≡ true = c.if-not-entries_fit.ensures.exact.1 ((sum-multiplies c.args.a.now c.args.b.now c.args.c.now c.in_ok-sum.sum c.raw_dim.ensures.axes c.raw_dim-2.ensures.axes adds (FitsSigned w64)).1 (given.2, given.3)) in cc))

pub returns-clause-when : goal.returns-clause-when
returns-clause-when g c =
    let adds = copy-adds c.args.b.now c.args.c.now c.in_ok-copy.copy c.in_ok-sum.sum (c.in_ok-copy.ensures.same (λ x y h. h)) c.in_ok-copy.ensures.whole c.raw_dim-3.ensures.whole (search rules) c.in_ok-sum.ensures.made in
    let fits = (sum-multiplies c.args.a.now c.args.b.now c.args.c.now c.in_ok-sum.sum c.raw_dim.ensures.axes c.raw_dim-2.ensures.axes adds (FitsSigned w64)).0 (c.if-not-entries_fit.ensures.exact.0 refl) in
    (λ some. (adds.same, c.if-not-add_fits.ensures.exact.0 refl, fits.0, fits.1), λ given. refl)

pub returns-clause-product : goal.returns-clause-product
returns-clause-product g c =
    sum-made c.args.a.now c.args.b.now c.args.c.now c.in_ok-sum.sum c.raw_dim.ensures.axes c.raw_dim-2.ensures.axes (copy-adds c.args.b.now c.args.c.now c.in_ok-copy.copy c.in_ok-sum.sum (c.in_ok-copy.ensures.same (λ x y h. h)) c.in_ok-copy.ensures.whole c.raw_dim-3.ensures.whole (search rules) c.in_ok-sum.ensures.made) c.mat_distributes.ensures.of_sums (c.if-not-entries_fit.ensures.exact.0 refl).0 c.in_ok-product.product c.in_ok-product.ensures.made
