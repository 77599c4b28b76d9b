use Rattle.std.proofs.Common.{◌≡◌, ◌∙◌, ap, refl, subst, true}
use Rattle.ndarray.specs.Broadcast.{BroadcastsTo}
use Rattle.ndarray.specs.Products.{CanAddProduct}
use Rattle.ndarray.specs.Views.{broadcast_to}
use Rattle.ndarray.specs.WholeValues.{whole_numbers}
use Rattle.ndarray.specs.declared.base.shape.Order.TheVariants.{RowMajor, ColumnMajor}
use Rattle.ndarray.proofs.callers.Testing.{may-decide, tested-pairs}
use Rattle.ndarray.proofs.cells.TestedCells.{tested-assign}
use Rattle.ndarray.proofs.convolution.WindowTests.{not_true}
use Rattle.ndarray.proofs.lists.Decisions.{from_yes}
use Rattle.ndarray.proofs.linalg.scaled_addition.scaled_sums_fit.Goals as goal

pub all_in_either_order-requires-clause-by_rows : goal.all_in_either_order-requires-clause-by_rows
all_in_either_order-requires-clause-by_rows g c = may-decide _ (λ t p. CanAddProduct (whole_numbers g.A.Number.value g.A.Number.fits) t.alpha p.0.now p.1.now) _ _ true RowMajor

pub all_in_either_order-requires-clause-by_columns : goal.all_in_either_order-requires-clause-by_columns
all_in_either_order-requires-clause-by_columns g c = may-decide _ (λ t p. CanAddProduct (whole_numbers g.A.Number.value g.A.Number.fits) t.alpha p.0.now p.1.now) _ _ true ColumnMajor

pub returns : goal.returns
returns g c =
    let a = c.args.left.now in
    let b = c.args.right.now in
    let can = CanAddProduct (whole_numbers g.A.Number.value g.A.Number.fits) c.args.alpha in
    let shapes : BroadcastsTo b.lengths a.lengths = subst (BroadcastsTo b.lengths) c.raw_dim.ensures.lengths (c.in-Some.ensures.answers.0 refl).0 in
    let right : c.in-Some.right ≡ broadcast_to b a.lengths = c.in-Some.ensures.value ∙ ap (broadcast_to b) c.raw_dim.ensures.lengths in
    let (o, ran) = c.all_in_either_order.ensures.ran in
    tested-assign can a b c.in-Some.right c.all_in_either_order.result shapes right
    (tested-pairs _ _ _ _ can a c.view.result c.in-Some.right c.in-Some.right c.view.ensures.same refl o c.all_in_either_order.result ran
    (λ is k turn. (turn.2.1, (turn.0.0.now, turn.0.1.now, turn.1.0, turn.1.1, from_yes _ turn.2.0)))
    (λ is stop. (stop.2.0, (stop.0.0.now, stop.0.1.now, stop.1.0, stop.1.1, not_true _ stop.2.1.1.0)))
    (λ end. end))
