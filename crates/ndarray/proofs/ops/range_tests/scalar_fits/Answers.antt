use Rattle.std.proofs.Common.{true}
use Rattle.ndarray.specs.declared.base.shape.Order.TheVariants.{RowMajor, ColumnMajor}
use Rattle.ndarray.proofs.callers.Testing.{may-decide, tested-cells}
use Rattle.ndarray.proofs.convolution.WindowTests.{not_true}
use Rattle.ndarray.proofs.lists.Decisions.{from_yes}
use Rattle.ndarray.proofs.ops.range_tests.scalar_fits.Goals as goal

pub all_in_either_order-requires-clause-by_rows : goal.all_in_either_order-requires-clause-by_rows
all_in_either_order-requires-clause-by_rows g c = may-decide _ (λ t p. g.O.RangeTest.result_fits p.now t.scalar.now) _ _ true RowMajor

pub all_in_either_order-requires-clause-by_columns : goal.all_in_either_order-requires-clause-by_columns
all_in_either_order-requires-clause-by_columns g c = may-decide _ (λ t p. g.O.RangeTest.result_fits p.now t.scalar.now) _ _ true ColumnMajor

pub returns-clause-exact : goal.returns-clause-exact
returns-clause-exact g c =
    let (o, ran) = c.all_in_either_order.ensures.ran in
    tested-cells _ _ _ _ (λ x. g.O.RangeTest.result_fits x c.args.scalar.now) c.args.array.now c.view.result c.view.ensures.same o c.all_in_either_order.result ran
    (λ is k turn. (turn.2.1, (turn.0.now, turn.1, from_yes _ turn.2.0)))
    (λ is stop. (stop.2.0, (stop.0.now, stop.1, not_true _ stop.2.1.1.0)))
    (λ end. end)

pub returns-clause-defined : goal.returns-clause-defined
returns-clause-defined g c = λ on is x here. g.met.O.RangeTest.defined x c.args.scalar.now ((returns-clause-exact g c).0 on is x here)
