use Rattle.ndarray.proofs.Common.{◌≡◌, false, refl, sym, true, inner-matrices, made-first, made-sum, matrix_of, i64_values}
use Rattle.ndarray_examples.proofs.ProductsInTurn.{square-fits}
use Rattle.ndarray_examples.proofs.matrix_laws.fourth_power.Goals as goal

pub returns-then-not-entries_fit-2-clause-when : goal.returns-then-not-entries_fit-2-clause-when
returns-then-not-entries_fit-2-clause-when g c = (λ off. absurd cc, λ given. absurd (let yes : false ≡ true = c.if-not-entries_fit-2.ensures.exact.1 ((square-fits c.args.a.now c.in_ok-square.square c.raw_dim-lengths.ensures.axes given.0 c.in_ok-square.ensures.made).1 given.2) in cc))

pub returns-clause-when : goal.returns-clause-when
returns-clause-when g c = (λ some. ((c.if-not-entries_fit.ensures.exact.0 refl).0, (c.if-not-entries_fit.ensures.exact.0 refl).1, (square-fits c.args.a.now c.in_ok-square.square c.raw_dim-lengths.ensures.axes (c.if-not-entries_fit.ensures.exact.0 refl).0 c.in_ok-square.ensures.made).0 (c.if-not-entries_fit-2.ensures.exact.0 refl)), λ given. refl)

pub returns-clause-power : goal.returns-clause-power
returns-clause-power g c =
    let m = matrix_of i64_values c.args.a.now in
    let sides = sym (inner-matrices c.args.a.now.lengths c.args.a.now.lengths c.raw_dim-lengths.ensures.axes c.raw_dim-lengths.ensures.axes (c.if-not-entries_fit.ensures.exact.0 refl).0.inner) in
    let first = made-first i64_values c.mat_powers.ensures.identity c.args.a.now c.raw_dim-lengths.ensures.whole c.raw_dim-lengths.ensures.axes in
    let second = made-sum i64_values m sides 1 1 c.args.a.now c.args.a.now first first c.mat_powers.ensures.adds c.in_ok-square.square c.in_ok-square.ensures.made in
    made-sum i64_values m sides 2 2 c.in_ok-square.square c.in_ok-square.square second second c.mat_powers.ensures.adds c.in_ok-fourth.fourth c.in_ok-fourth.ensures.made
