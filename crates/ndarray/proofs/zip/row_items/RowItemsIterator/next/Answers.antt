use Rattle.std.proofs.Common.{Some, ap, arith, length, subst}
use Rattle.ndarray.specs.zip.RowItems.{HoldsItems}
use Rattle.ndarray.proofs.runs.RowItems.{counts-down, item-of_row, row-ended}
use Rattle.ndarray.proofs.zip.row_items.RowItemsIterator.next.Goals as goal

pub returns-in_default-clause-goes : goal.returns-in_default-clause-goes
returns-in_default-clause-goes g c = counts-down _ (λ s. s.left) _ _ c.next_of_next_row.result c.next_of_next_row.ensures.can c.next_of_next_row.ensures.left

pub next_of_next_row-requires-in_default-next : goal.next_of_next_row-requires-in_default-next
next_of_next_row-requires-in_default-next g c =
    let (p, (is, (holds, many))) = c.requires in
    (p, (is, (row-ended g.P.Rows.Iterator.next_gives g.P.Rows.Iterator.can_next (g.P.NdProducer.row_form p) g.P.RowRun.Iterator.next_gives g.P.RowRun.Iterator.can_next (g.P.NdProducer.yields_at p) c.in-Some.row c.next.new.self c.args.self.now.rows is c.in_default-next.ensures.steps (subst (λ o. HoldsItems g.P.Rows.Iterator.next_gives g.P.Rows.Iterator.can_next (g.P.NdProducer.row_form p) g.P.RowRun.Iterator.next_gives g.P.RowRun.Iterator.can_next (g.P.NdProducer.yields_at p) o c.args.self.now.rows is) c.in-Some.is holds), many)))

pub returns-in_default-next-clause-steps : goal.returns-in_default-next-clause-steps
returns-in_default-next-clause-steps g c = λ p is holds.
    c.next_of_next_row-in_default-next.ensures.steps p is (row-ended g.P.Rows.Iterator.next_gives g.P.Rows.Iterator.can_next (g.P.NdProducer.row_form p) g.P.RowRun.Iterator.next_gives g.P.RowRun.Iterator.can_next (g.P.NdProducer.yields_at p) c.in-Some.row c.next.new.self c.args.self.now.rows is c.in_default-next.ensures.steps (subst (λ o. HoldsItems g.P.Rows.Iterator.next_gives g.P.Rows.Iterator.can_next (g.P.NdProducer.row_form p) g.P.RowRun.Iterator.next_gives g.P.RowRun.Iterator.can_next (g.P.NdProducer.yields_at p) o c.args.self.now.rows is) c.in-Some.is holds))

pub returns-in_default-next-clause-goes : goal.returns-in_default-next-clause-goes
returns-in_default-next-clause-goes g c = counts-down _ (λ s. s.left) _ _ c.next_of_next_row-in_default-next.result c.next_of_next_row-in_default-next.ensures.can c.next_of_next_row-in_default-next.ensures.left

pub returns-clause-steps : goal.returns-clause-steps
returns-clause-steps g c = λ p is holds.
    item-of_row g.P.Rows.Iterator.next_gives g.P.Rows.Iterator.can_next (g.P.NdProducer.row_form p) g.P.RowRun.Iterator.next_gives g.P.RowRun.Iterator.can_next (g.P.NdProducer.yields_at p) c.in-Some.row c.next.new.self c.args.self.now.rows is c.in-Some-next.item c.in-Some-next.ensures.steps c.in-Some-next.ensures.goes.keeps (subst (λ o. HoldsItems g.P.Rows.Iterator.next_gives g.P.Rows.Iterator.can_next (g.P.NdProducer.row_form p) g.P.RowRun.Iterator.next_gives g.P.RowRun.Iterator.can_next (g.P.NdProducer.yields_at p) o c.args.self.now.rows is) c.in-Some.is holds)

pub returns-clause-goes : goal.returns-clause-goes
returns-clause-goes g c =
    let (p, (is, (holds, many))) = c.requires in
    let (i, (rest, (same, (yields, more)))) = returns-clause-steps g c p is holds in
    let long = ap length same in
    counts-down _ (λ s. s.left) _ _ (Some c.in-Some-next.item) (p, (rest, (more, omega (arith, many, long)))) (omega (arith, many, long))
