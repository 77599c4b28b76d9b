use Rattle.std.proofs.Common.{◌∙◌, ◌∷◌, ap, map, sym}
use Rattle.ndarray.specs.places.ElementPlaces.{places_along}
use Rattle.ndarray.proofs.moving.RowPlaces.{first-as_many, rest-each}
use Rattle.ndarray.proofs.zip.layout_places.PlaceRowsIterator.next.Goals as goal

pub along-requires : goal.along-requires
along-requires g c =
    let t = c.self.inside in
    first-as_many t.layout.start (g.D.Lengths.numbers t.layout.strides) t.rows c.next.new.self (g.D.Lengths.numbers c.in-Some.row.first) c.in-Some.row.axis c.in-Some.row.count c.in-Some.ensures c.self.invariant

pub invariant_of-self-2 : goal.invariant_of-self-2
invariant_of-self-2 g c =
    let t = c.self.inside in
    rest-each t.layout.start (g.D.Lengths.numbers t.layout.strides) t.rows c.next.new.self (g.D.Lengths.numbers c.in-Some.row.first) c.in-Some.row.axis c.in-Some.row.count c.in-Some.ensures c.self.invariant

pub returns-clause-steps : goal.returns-clause-steps
returns-clause-steps g c =
    let t = c.self.inside in
    let along = places_along t.layout.start (g.D.Lengths.numbers t.layout.strides) in
    ap (λ r. r.rows) (sym c.self.view_is) ∙ (ap (map along) c.in-Some.ensures ∙ ap (λ x. x ∷ map along c.next.new.self) (sym c.along.ensures))
