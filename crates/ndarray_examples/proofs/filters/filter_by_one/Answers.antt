use Rattle.ndarray.proofs.Common.{rules, ◌≡◌, ◌≤◌, false, length, refl, true}
use Rattle.ndarray_examples.proofs.ConvolutionsInTurn.{filtered-by, fits-by, made-of, may-filter}
use Rattle.ndarray_examples.proofs.filters.filter_by_one.Goals as goal

pub returns-then-not-conv_valid_ok-clause-when : goal.returns-then-not-conv_valid_ok-clause-when
returns-then-not-conv_valid_ok-clause-when g c = (λ off. absurd cc, λ given. absurd (let yes : false ≡ true = c.if-not-conv_valid_ok.ensures.1 (may-filter c.args.signal.now c.raw_dim.ensures.axes c.raw_dim.ensures.whole c.args.first.now.cells c.args.second.now.cells c.in-Some.kernel (made-of _ _ _ _ c.in-Some.is c.in_ok-kernel.ensures.when c.in_ok-kernel.ensures.one_way) given.0 given.1) in cc))

pub returns-then-not-valid_fits-clause-when : goal.returns-then-not-valid_fits-clause-when
returns-then-not-valid_fits-clause-when g c = (λ off. absurd cc, λ given. absurd (let yes : false ≡ true = c.if-not-valid_fits.ensures.magnitudes.1 ((fits-by c.args.signal.now c.raw_dim.ensures.axes c.raw_dim.ensures.whole c.args.first.now.cells c.args.second.now.cells c.in-Some.kernel (made-of _ _ _ _ c.in-Some.is c.in_ok-kernel.ensures.when c.in_ok-kernel.ensures.one_way) given.0 given.1).1 given.4) in cc))

pub returns-clause-when : goal.returns-clause-when
returns-clause-when g c =
    let made = made-of c.args.first.now.cells c.args.second.now.cells _ c.in-Some.kernel c.in-Some.is c.in_ok-kernel.ensures.when c.in_ok-kernel.ensures.one_way in
    let some : 1 ≤ length c.args.first.now.cells = search rules in
    let more : 1 ≤ length c.args.second.now.cells = search rules in
    (λ _. (some, more, made.fits.0, made.fits.1, (fits-by c.args.signal.now c.raw_dim.ensures.axes c.raw_dim.ensures.whole c.args.first.now.cells c.args.second.now.cells c.in-Some.kernel made some more).0 (c.if-not-valid_fits.ensures.magnitudes.0 refl)), λ _. refl)

pub returns-clause-filtered : goal.returns-clause-filtered
returns-clause-filtered g c = filtered-by c.args.signal.now c.raw_dim.ensures.axes c.raw_dim.ensures.whole c.args.first.now.cells c.args.second.now.cells c.in-Some.kernel (made-of _ _ _ _ c.in-Some.is c.in_ok-kernel.ensures.when c.in_ok-kernel.ensures.one_way) (search rules) (search rules) c.conv_filters.ensures.lists c.in_ok-direct.direct c.in_ok-direct.ensures.made.lengths c.in_ok-direct.ensures.made.whole c.in_ok-direct.ensures.made.cells
