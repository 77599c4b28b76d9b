use Rattle.ndarray.proofs.Common.{rules, arith, ◌≡◌, array_by, remove, assign_row-by, can-assign-row-by}
use Rattle.ndarray_examples.specs.Centring.{centred_at, column_mean}
use Rattle.ndarray_examples.proofs.centring.centre.Goals as goal

pub returns-clause-differences : goal.returns-clause-differences
returns-clause-differences g c =
    let a = c.args.table.now in
    let copied : c.in_ok-centred.centred ≡ a = search rules in
    let means : c.in-Some.means ≡ array_by (remove a.lengths 0) (column_mean a) = search rules in
    assign_row-by a c.in-Some.means (column_mean a) (omega arith) means _ _ (centred_at a) (λ i js x z there given. rw there given) (rw copied at c.sub_assign.ensures.after)

pub returns-then-not-sub_assign_fits-clause-some : goal.returns-then-not-sub_assign_fits-clause-some
returns-then-not-sub_assign_fits-clause-some g c some sums small =
    let a = c.args.table.now in
    let copied : c.in_ok-centred.centred ≡ a = search rules in
    let means : c.in-Some.means ≡ array_by (remove a.lengths 0) (column_mean a) = search rules in
    (rw copied at c.if-not-sub_assign_fits.ensures.exact).1 (can-assign-row-by a c.in-Some.means (column_mean a) (omega arith) means _ small)
