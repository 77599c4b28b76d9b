use Rattle.ndarray.proofs.Common.{◌≡◌, false, refl, true}
use Rattle.ndarray_examples.proofs.ProductsInTurn.{fit-again, from-left, from-right}
use Rattle.ndarray_examples.proofs.matrix_laws.product_of_three.Goals as goal

pub returns-then-not-entries_fit-2-clause-when : goal.returns-then-not-entries_fit-2-clause-when
returns-then-not-entries_fit-2-clause-when g c = (λ off. absurd cc, λ given. absurd (let yes : false ≡ true = c.if-not-entries_fit-2.ensures.exact.1 ((fit-again c.args.a.now c.args.b.now c.args.c.now c.in_ok-left.left c.raw_dim.ensures.axes c.raw_dim-2.ensures.axes c.raw_dim-3.ensures.axes (given.0, given.1) c.in_ok-left.ensures.made).1 (given.2, given.3)) in cc))

pub returns-clause-when : goal.returns-clause-when
returns-clause-when g c =
    let first = c.if-not-entries_fit.ensures.exact.0 refl in
    let second = (fit-again c.args.a.now c.args.b.now c.args.c.now c.in_ok-left.left c.raw_dim.ensures.axes c.raw_dim-2.ensures.axes c.raw_dim-3.ensures.axes first c.in_ok-left.ensures.made).0 (c.if-not-entries_fit-2.ensures.exact.0 refl) in
    (λ some. (first.0, first.1, second.0, second.1), λ given. refl)

pub returns-clause-from_left : goal.returns-clause-from_left
returns-clause-from_left g c = from-left c.args.a.now c.args.b.now c.args.c.now c.in_ok-left.left c.raw_dim.ensures.axes c.raw_dim-2.ensures.axes c.raw_dim-3.ensures.axes (c.if-not-entries_fit.ensures.exact.0 refl) c.in_ok-left.ensures.made (c.if-not-entries_fit-2.ensures.exact.0 refl) c.in_ok-product.product c.in_ok-product.ensures.made

pub returns-clause-from_right : goal.returns-clause-from_right
returns-clause-from_right g c = from-right c.args.a.now c.args.b.now c.args.c.now c.in_ok-left.left c.raw_dim.ensures.axes c.raw_dim-2.ensures.axes c.raw_dim-3.ensures.axes (c.if-not-entries_fit.ensures.exact.0 refl) c.in_ok-left.ensures.made c.mat_assoc.ensures (c.if-not-entries_fit-2.ensures.exact.0 refl) c.in_ok-product.product c.in_ok-product.ensures.made
