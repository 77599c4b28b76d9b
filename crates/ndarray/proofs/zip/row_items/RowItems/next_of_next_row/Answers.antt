use Rattle.std.proofs.Common.{ap, arith, length}
use Rattle.ndarray.proofs.runs.RowItems.{item-of_next, item-there, row-form}
use Rattle.ndarray.proofs.zip.row_items.RowItems.next_of_next_row.Goals as goal

pub run_row-row-requires : goal.run_row-row-requires
run_row-row-requires g c =
    let (p, (is, (holds, many))) = c.requires in
    (p, row-form g.P.Rows.Iterator.next_gives g.P.Rows.Iterator.can_next (g.P.NdProducer.row_form p) g.P.RowRun.Iterator.next_gives g.P.RowRun.Iterator.can_next (g.P.NdProducer.yields_at p) _ _ is c.in-Some.row c.in-Some.ensures.steps holds)

pub unreachable-requires : goal.unreachable-requires
unreachable-requires g c =
    let (p, (is, (holds, many))) = c.requires in
    item-there g.P.Rows.Iterator.next_gives g.P.Rows.Iterator.can_next (g.P.NdProducer.row_form p) g.P.RowRun.Iterator.next_gives g.P.RowRun.Iterator.can_next (g.P.NdProducer.yields_at p) _ _ is c.in-Some.row c.in-Some.ensures.steps c.in-Some.ensures.goes.keeps c.run_row-row.result c.run_row-row.ensures.can (c.run_row-row.ensures.gives p) holds _ c.in_default-next.ensures.steps

pub overflow_sub-self : goal.overflow_sub-self
overflow_sub-self g c =
    let (p, (is, (holds, many))) = c.requires in
    let (i, (rest, (same, (yields, more)))) = item-of_next g.P.Rows.Iterator.next_gives g.P.Rows.Iterator.can_next (g.P.NdProducer.row_form p) g.P.RowRun.Iterator.next_gives g.P.RowRun.Iterator.can_next (g.P.NdProducer.yields_at p) _ _ is c.in-Some.row c.in-Some.ensures.steps c.in-Some.ensures.goes.keeps c.run_row-row.result c.run_row-row.ensures.can (c.run_row-row.ensures.gives p) holds _ c.in-Some-next.item c.in-Some-next.ensures.steps c.in-Some-next.ensures.goes.keeps in
    let long = ap length same in
    omega (arith, many, long)

pub returns-clause-steps : goal.returns-clause-steps
returns-clause-steps g c = λ p is holds.
    item-of_next g.P.Rows.Iterator.next_gives g.P.Rows.Iterator.can_next (g.P.NdProducer.row_form p) g.P.RowRun.Iterator.next_gives g.P.RowRun.Iterator.can_next (g.P.NdProducer.yields_at p) _ _ is c.in-Some.row c.in-Some.ensures.steps c.in-Some.ensures.goes.keeps c.run_row-row.result c.run_row-row.ensures.can (c.run_row-row.ensures.gives p) holds _ c.in-Some-next.item c.in-Some-next.ensures.steps c.in-Some-next.ensures.goes.keeps

pub returns-clause-can : goal.returns-clause-can
returns-clause-can g c =
    let (p, (is, (holds, many))) = c.requires in
    let (i, (rest, (same, (yields, more)))) = returns-clause-steps g c p is holds in
    let long = ap length same in
    (p, (rest, (more, omega (arith, many, long))))

pub returns-clause-left : goal.returns-clause-left
returns-clause-left g c =
    let (p, (is, (holds, many))) = c.requires in
    let (i, (rest, (same, (yields, more)))) = returns-clause-steps g c p is holds in
    let long = ap length same in
    omega (arith, many, long)
