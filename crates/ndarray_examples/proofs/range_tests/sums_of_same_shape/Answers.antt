use Rattle.ndarray.proofs.Common.{can-combine, combined-cells, combines-combined, false≢true, refl, ◌+ℤ◌}
use Rattle.ndarray_examples.proofs.range_tests.sums_of_same_shape.Goals as goal

pub returns-then-not-add_fits-clause-when : goal.returns-then-not-add_fits-clause-when
returns-then-not-add_fits-clause-when g c =
    (λ e. absurd (false≢true e), λ each. c.if-not-add_fits.ensures.exact.1 (can-combine _ _ c.raw_dim.ensures.whole c.raw_dim-2.ensures.whole c.requires _ c.raw_dim.ensures.limit each))

pub returns-clause-when : goal.returns-clause-when
returns-clause-when g c = (λ _. combined-cells _ _ c.raw_dim.ensures.whole c.raw_dim-2.ensures.whole c.requires _ (c.if-not-add_fits.ensures.exact.0 refl), λ _. refl)

pub returns-clause-sums : goal.returns-clause-sums
returns-clause-sums g c = combines-combined _ _ c.raw_dim.ensures.whole c.raw_dim-2.ensures.whole c.requires _ _ (λ x y. x +ℤ y) (λ x y z e. e) c.in_ok-sums.ensures.made
