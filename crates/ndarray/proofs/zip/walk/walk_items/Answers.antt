use Rattle.std.proofs.Common.{refl, sym, subst}
use Rattle.ndarray.specs.Orders.{box_in}
use Rattle.ndarray.specs.order.Rows.{rows_in}
use Rattle.ndarray.specs.Runs.{MayTurnAt, TurnAt, TakesAt, StopsAt, EndsOrStops}
use Rattle.ndarray.proofs.boxes.Rows.{rows-joined}
use Rattle.ndarray.proofs.zip.walk.walk_items.Goals as goal

pub walk_row-requires : goal.walk_row-requires
walk_row-requires g c =
    let p = c.args.p in
    (p, (box_in c.args.order (g.P.Shaped.lengths p), (c.in-Some.ensures (c.if-is_one_row.ensures refl) p c.args.order c.into_rows-rows.ensures.form, c.requires.can)))

pub returns-in-Some : goal.returns-in-Some
returns-in-Some g c =
    let p = c.args.p in
    record { ran = c.walk_row.ensures p (box_in c.args.order (g.P.Shaped.lengths p)) (c.in-Some.ensures (c.if-is_one_row.ensures refl) p c.args.order c.into_rows-rows.ensures.form) }

pub walk_rows-requires-clause-can : goal.walk_rows-requires-clause-can
walk_rows-requires-clause-can g c =
    let p = c.args.p in
    let joined = rows-joined c.args.order (g.P.Shaped.lengths p) in
    (p, (_, (c.into_rows-rows.ensures.gives, subst (MayTurnAt (TurnAt (g.P.NdProducer.yields_at p) g.T.Turn.goes) (TakesAt (g.P.NdProducer.yields_at p) g.T.Turn.can_accept) c.args.turn) (sym joined) c.requires.can)))

pub returns-else-is_one_row : goal.returns-else-is_one_row
returns-else-is_one_row g c =
    let p = c.args.p in
    record {
      ran = subst (λ l. EndsOrStops (TurnAt (g.P.NdProducer.yields_at p) g.T.Turn.goes) (StopsAt (g.P.NdProducer.yields_at p) g.T.Turn.stops) c.args.turn l c.walk_rows.result) (rows-joined c.args.order (g.P.Shaped.lengths p))
          (c.walk_rows.ensures.ran p (rows_in c.args.order (g.P.Shaped.lengths p)) c.into_rows-rows.ensures.gives);
    }
