use Rattle.std.proofs.Common.{true}
use Rattle.std.specs.Prelude.{neg_ℤ}
use Rattle.ndarray.specs.declared.base.shape.Order.TheVariants.{RowMajor, ColumnMajor}
use Rattle.ndarray.proofs.callers.Testing.{may-decide, tested-cells}
use Rattle.ndarray.proofs.convolution.WindowTests.{not_true}
use Rattle.ndarray.proofs.lists.Decisions.{from_yes}
use Rattle.ndarray.proofs.ops.range_tests.negatives_fit.Goals as goal

pub all_in_either_order-requires-clause-by_rows : goal.all_in_either_order-requires-clause-by_rows
all_in_either_order-requires-clause-by_rows g c = may-decide _ (λ t p. g.A.Number.fits (neg_ℤ (g.A.Number.value p.now))) _ _ true RowMajor

pub all_in_either_order-requires-clause-by_columns : goal.all_in_either_order-requires-clause-by_columns
all_in_either_order-requires-clause-by_columns g c = may-decide _ (λ t p. g.A.Number.fits (neg_ℤ (g.A.Number.value p.now))) _ _ true ColumnMajor

pub returns : goal.returns
returns g c =
    let (o, ran) = c.all_in_either_order.ensures.ran in
    tested-cells _ _ _ _ (λ x. g.A.Number.fits (neg_ℤ (g.A.Number.value x))) c.args.array.now c.view.result c.view.ensures.same o c.all_in_either_order.result ran
    (λ is k turn. (turn.2.1, (turn.0.now, turn.1, from_yes _ turn.2.0)))
    (λ is stop. (stop.2.0, (stop.0.now, stop.1, not_true _ stop.2.1.1.0)))
    (λ end. end)
