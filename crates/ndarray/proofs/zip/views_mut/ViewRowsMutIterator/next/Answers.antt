use Rattle.std.proofs.Common.{◌∙◌, ap, sym}
use Rattle.ndarray.specs.order.Rows.{joined}
use Rattle.ndarray.specs.base.Slots.{held_at}
use Rattle.ndarray.specs.places.ElementPlaces.{places_along}
use Rattle.ndarray.proofs.moving.RowPlaces.{first-as_many}
use Rattle.ndarray.proofs.moving.SomePlaces.{places-first}
use Rattle.ndarray.proofs.moving.TakenRows.{row-apart, row-taken, rows-left}
use Rattle.ndarray.proofs.zip.views_mut.ViewRowsMutIterator.next.Goals as goal

pub along-places-requires : goal.along-places-requires
along-places-requires g c =
    let t = c.self.inside in
    first-as_many t.layout.start (g.D.Lengths.numbers t.layout.strides) t.rows c.next.new.self (g.D.Lengths.numbers c.in-Some.row.first) c.in-Some.row.axis c.in-Some.row.count c.in-Some.ensures c.self.invariant.0.each

pub taken_from-cells-requires : goal.taken_from-cells-requires
taken_from-cells-requires g c =
    let t = c.self.inside in
    places-first (held_at t.region.slots) c.along-places.result (places_along t.layout.start (g.D.Lengths.numbers t.layout.strides) (joined c.next.new.self))
    (row-apart (held_at t.region.slots) t.layout.start (g.D.Lengths.numbers t.layout.strides) t.rows c.next.new.self (g.D.Lengths.numbers c.in-Some.row.first) c.in-Some.row.axis c.in-Some.row.count c.in-Some.ensures c.self.invariant.0 _ c.along-places.ensures)

pub invariant_of-self-2 : goal.invariant_of-self-2
invariant_of-self-2 g c =
    let t = c.self.inside in
    (rows-left (held_at t.region.slots) t.layout.start (g.D.Lengths.numbers t.layout.strides) t.rows c.next.new.self (g.D.Lengths.numbers c.in-Some.row.first) c.in-Some.row.axis c.in-Some.row.count c.in-Some.ensures c.self.invariant.0 _ c.along-places.ensures _ c.taken_from-cells.ensures.others, tt)

pub returns-clause-steps : goal.returns-clause-steps
returns-clause-steps g c =
    let t = c.self.inside in
    ap (λ r. r.rows) (sym c.self.view_is)
    ∙ row-taken (held_at t.region.slots) t.layout.start (g.D.Lengths.numbers t.layout.strides) t.rows c.next.new.self (g.D.Lengths.numbers c.in-Some.row.first) c.in-Some.row.axis c.in-Some.row.count c.in-Some.ensures c.self.invariant.0 _ c.along-places.ensures _ c.taken_from-cells.ensures.others
    _ (c.of.ensures ∙ c.taken_from-cells.ensures.value)
