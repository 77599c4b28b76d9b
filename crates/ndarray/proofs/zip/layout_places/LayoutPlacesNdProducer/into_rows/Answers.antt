use Rattle.std.proofs.Common.{◌≡◌, ◌<◌, ◌∙◌, ap, length, map, subst, sym}
use Rattle.std.specs.Prelude.{All}
use Rattle.ndarray.specs.order.Rows.{rows_in}
use Rattle.ndarray.specs.places.ElementPlaces.{places_along}
use Rattle.ndarray.proofs.moving.RowPlaces.{rows-as_many}
use Rattle.ndarray.proofs.runs.Rows.{RowsInTurn-map}
use Rattle.ndarray.proofs.zip.layout_places.LayoutPlacesNdProducer.into_rows.Goals as goal

rows-are : (g : _) (c : goal.After-in_order g) → c.new-rows.result ≡ rows_in c.args.order (g.D.Lengths.numbers c.args.self.layout.dim)
rows-are g c = c.new-rows.ensures ∙ ap (rows_in c.args.order) c.raw_dim.ensures.lengths

pub invariant_of-result : goal.invariant_of-result
invariant_of-result g c =
    let s = c.args.self in
    let bs = g.D.Lengths.numbers s.layout.strides in
    subst (All (λ row. (0 < length row) × All (λ is. length bs ≡ length is) row)) (sym (rows-are g c)) (rows-as_many (g.D.Lengths.numbers s.layout.dim) bs c.args.order s.as_many)

pub returns-clause-form : goal.returns-clause-form
returns-clause-form g c =
    let along = places_along c.args.self.layout.start (g.D.Lengths.numbers c.args.self.layout.strides) in
    (ap (map along) (rows-are g c), c.in_order.ensures)

pub returns-clause-gives : goal.returns-clause-gives
returns-clause-gives g c =
    let along = places_along c.args.self.layout.start (g.D.Lengths.numbers c.args.self.layout.strides) in
    RowsInTurn-map (λ row. row) (λ s. s.rows) along _ (ap (map along) (rows-are g c))
