use Rattle.std.proofs.Common.{◌≡◌, ◌∙◌, ap, map, subst, sym}
use Rattle.std.specs.Prelude.{filter_map}
use Rattle.std.proofs.lemmas.Option.{IfSome_then}
use Rattle.ndarray.specs.Grid.{cell}
use Rattle.ndarray.specs.Orders.{cells_in}
use Rattle.ndarray.specs.zip.RowCells.{row_cells_mut}
use Rattle.ndarray.specs.order.Rows.{rows_in}
use Rattle.ndarray.specs.base.Slots.{held_at}
use Rattle.ndarray.specs.places.ElementPlaces.{places_along, AreDistinctPlaces, HaveRows}
use Rattle.ndarray.proofs.moving.BorrowedCells.{AreDistinctPlaces-all, found-all}
use Rattle.ndarray.proofs.moving.RowPlaces.{HaveRows-all, rows-found}
use Rattle.ndarray.proofs.runs.OneRows.{one-said}
use Rattle.ndarray.proofs.runs.Rows.{RowsInTurn-cells}
use Rattle.ndarray.proofs.zip.views_mut.ArrayViewMutNdProducer.into_rows.Goals as goal

rows-are : (g : _) (c : goal.After-in_order g) → c.new-rows.result ≡ rows_in c.args.order (g.D.Lengths.numbers c.self.inside.layout.dim)
rows-are g c = c.new-rows.ensures ∙ (ap (rows_in c.args.order) c.raw_dim.ensures.lengths ∙ ap (λ v. rows_in c.args.order v.lengths) (sym c.self.view_is))

pub invariant_of-result : goal.invariant_of-result
invariant_of-result g c =
    let a = c.self.inside in
    let at = held_at a.storage.slots in
    let ns = g.D.Lengths.numbers a.layout.dim in
    let bs = g.D.Lengths.numbers a.layout.strides in (
      subst (HaveRows at a.layout.start bs) (sym (rows-are g c)) (HaveRows-all at ns a.layout.start bs c.args.order c.self.invariant),
      IfSome_then c.in_order.result c.in_order.ensures (λ ps e. subst (AreDistinctPlaces at) (sym e) (AreDistinctPlaces-all at ns a.layout.start bs c.self.invariant c.args.order)),
    )

rows-found-in : (g : _) (c : goal.After-in_order g) → map (λ row. filter_map (held_at c.self.inside.storage.slots) (places_along c.self.inside.layout.start (g.D.Lengths.numbers c.self.inside.layout.strides) row)) c.new-rows.result ≡ map (filter_map (cell c.args.self)) (rows_in c.args.order c.args.self.lengths)
rows-found-in g c =
    let a = c.self.inside in
    let at = held_at a.storage.slots in
    let ns = g.D.Lengths.numbers a.layout.dim in
    let bs = g.D.Lengths.numbers a.layout.strides in
    ap (map (λ row. filter_map at (places_along a.layout.start bs row))) (rows-are g c)
    ∙ (rows-found at ns a.layout.start bs c.args.order c.self.invariant ∙ ap (λ v. map (filter_map (cell v)) (rows_in c.args.order v.lengths)) c.self.view_is)

pub returns-clause-form : goal.returns-clause-form
returns-clause-form g c =
    let a = c.self.inside in
    let at = held_at a.storage.slots in
    let v = c.args.self in
    let all = found-all at (g.D.Lengths.numbers a.layout.dim) a.layout.start (g.D.Lengths.numbers a.layout.strides) c.self.invariant c.args.order ∙ ap (cells_in c.args.order) c.self.view_is in
    ((rows-found-in g c, one-said (filter_map at) (λ l. l ≡ cells_in c.args.order v) c.in_order.result (IfSome_then c.in_order.result c.in_order.ensures (λ ps e. ap (filter_map at) e ∙ all))), c.raw_dim.ensures.whole)

pub returns-clause-gives : goal.returns-clause-gives
returns-clause-gives g c = RowsInTurn-cells c.args.self row_cells_mut (λ s. s.rows) c.args.order c.raw_dim.ensures.whole _ (rows-found-in g c)
