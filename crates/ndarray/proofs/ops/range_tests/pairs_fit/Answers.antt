use Rattle.std.proofs.Common.{true}
use Rattle.ndarray.specs.declared.base.shape.Order.TheVariants.{RowMajor, ColumnMajor}
use Rattle.ndarray.proofs.callers.Testing.{may-decide, tested-pairs}
use Rattle.ndarray.proofs.convolution.WindowTests.{not_true}
use Rattle.ndarray.proofs.lists.Decisions.{from_yes}
use Rattle.ndarray.proofs.ops.range_tests.pairs_fit.Goals as goal

pub all_in_either_order-requires-clause-by_rows : goal.all_in_either_order-requires-clause-by_rows
all_in_either_order-requires-clause-by_rows g c = may-decide _ (λ t p. g.O.RangeTest.result_fits p.0.now p.1.now) _ _ true RowMajor

pub all_in_either_order-requires-clause-by_columns : goal.all_in_either_order-requires-clause-by_columns
all_in_either_order-requires-clause-by_columns g c = may-decide _ (λ t p. g.O.RangeTest.result_fits p.0.now p.1.now) _ _ true ColumnMajor

pub returns : goal.returns
returns g c =
    let (o, ran) = c.all_in_either_order.ensures.ran in
    tested-pairs _ _ _ _ g.O.RangeTest.result_fits c.args.left.now c.view.result c.args.right.now c.view-2.result c.view.ensures.same c.view-2.ensures.same o c.all_in_either_order.result ran
    (λ is k turn. (turn.2.1, (turn.0.0.now, turn.0.1.now, turn.1.0, turn.1.1, from_yes _ turn.2.0)))
    (λ is stop. (stop.2.0, (stop.0.0.now, stop.0.1.now, stop.1.0, stop.1.1, not_true _ stop.2.1.1.0)))
    (λ end. end)
