use Rattle.std.proofs.Common.{◌++◌, ◌∙◌, ap, arith, length, subst, sym}
use Rattle.ndarray.specs.places.ElementPlaces.{places_along}
use Rattle.ndarray.specs.places.PlaceRows.{SplitsOffPlaces}
use Rattle.ndarray.proofs.places.place_rows.RowPlaces.next.Goals as goal
use Rattle.ndarray.proofs.places.place_rows.RowPlaces.next.Goals.{In-Some-next_row}

pub next_row-requires : goal.next_row-requires
next_row-requires g c = rw (c.copied.ensures.strides, c.again.ensures) c.self.invariant.0

-- the row that is taken, and what is behind it
taken : (g : _) (c : In-Some-next_row g) → SplitsOffPlaces c.self.inside.layout.start (g.D.Lengths.numbers c.self.inside.layout.strides) c.self.inside.walk c.in-Some-next_row.taken.row c.in-Some-next_row.taken.walk
taken g c =
    let axes = g.D.Lengths.numbers in
    let s = c.self.inside in
    let row = c.in-Some-next_row.taken.row in
    let zs = c.in-Some-next_row.taken.walk in
    subst (λ p. SplitsOffPlaces p (axes s.layout.strides) s.walk row zs) c.copied.ensures.start
    (subst (λ bs. SplitsOffPlaces c.copied.result.start bs s.walk row zs) c.copied.ensures.strides
    (subst (λ ys. SplitsOffPlaces c.copied.result.start (axes c.copied.result.strides) ys row zs) c.again.ensures c.in-Some-next_row.ensures))

pub returns : goal.returns
returns g c =
    let s = c.self.inside in
    let along = places_along s.layout.start (g.D.Lengths.numbers s.layout.strides) in
    let none = rw c.in_default.is at c.next.ensures in
    sym c.self.view_is ∙ (ap (λ l. l ++ along s.walk) none.0 ∙ ((taken g (goal.at.returns g c).In-Some-next_row).split ∙ ap (λ l. l ++ along c.in-Some-next_row.taken.walk) c.in-Some-next.ensures))

pub invariant_of-self-2 : goal.invariant_of-self-2
invariant_of-self-2 g c =
    let t = taken g (goal.at.invariant_of-self-2 g c).In-Some-next_row in
    let n = t.count in
    let e = ap length c.in-Some-next.ensures in
    let b = c.self.invariant.1 in
    (t.rest, omega arith)
