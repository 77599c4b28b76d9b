use Rattle.std.proofs.Common.{Ok, subst, sym}
use Rattle.ndarray.specs.Orders.{box_in}
use Rattle.ndarray.specs.Runs.{EndsOrStops, StopsAt, TurnAt}
use Rattle.ndarray.specs.base.Overwrites.{WriteStop, WriteTurn}
use Rattle.ndarray.proofs.zip.updating.update_elements.Goals as goal

pub returns-in-Ok : goal.returns-in-Ok
returns-in-Ok g c =
    let u = c.args.updates in
    let yields = g.P.NdProducer.yields_at u.items in (
      c.overwritten.inside.f,
      subst (λ (q : g.row.S.Denot × g.row.C.Denot). EndsOrStops {P = g.row.S.Denot × g.row.C.Denot} (TurnAt yields (WriteTurn g.S.Data.at g.C.CellCall.call_gives)) (StopsAt yields (WriteStop g.S.Data.at g.C.CellCall.call_gives)) (c.args.storage, u.f) (box_in u.order (g.P.Shaped.lengths u.items)) (Ok q))
          (sym c.overwritten.view_is) c.in-Ok.ensures.ran,
    )
