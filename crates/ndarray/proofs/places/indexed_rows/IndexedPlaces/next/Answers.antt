use Rattle.std.proofs.Common.{◌≡◌, ◌<◌, ◌++◌, ℕ, List, sym, ap, ◌∙◌, arith, length, zip, subst}
use Rattle.std.specs.Prelude.{slice_index}
use Rattle.std.specs.Iterator.{YieldsFirstBy}
use Rattle.std.proofs.lemmas.List.{nil_from_length}
use Rattle.ndarray.specs.order.Rows.{joined}
use Rattle.ndarray.specs.base.Ranks.{row_from}
use Rattle.ndarray.specs.base.Strided.{places_from}
use Rattle.ndarray.specs.declared.places.indexed_rows.IndexedPlaces.TheInside.{Inside}
use Rattle.ndarray.specs.places.ElementPlaces.{HaveIndexedRows, with_places}
use Rattle.ndarray.proofs.strides.IndexedRows.{first-as_many, row-fits, row-some, rows-behind, rows-split}
use Rattle.ndarray.proofs.strides.Rows.{length-indexed_row, yields-front, yields-fewer}
use Rattle.ndarray.proofs.places.indexed_rows.IndexedPlaces.next.Goals as goal
use Rattle.ndarray.proofs.places.indexed_rows.IndexedPlaces.next.Goals.{then-len-eq0+in-Some, else-len-eq0}

pub place-place-requires : goal.place-place-requires
place-place-requires g c =
    let axes = g.D.Lengths.numbers in
    let s = c.self.inside in
    let r = c.in-Some.row in
    first-as_many s.layout.start (axes s.layout.dim) (axes s.layout.strides) s.rows c.next.new.self (length s.row) (axes r.first) r.axis r.count c.in-Some.ensures c.self.invariant

pub new-requires : goal.new-requires
new-requires g c =
    let axes = g.D.Lengths.numbers in
    let s = c.self.inside in
    let r = c.in-Some.row in
    row-fits s.layout.start (axes s.layout.dim) (axes s.layout.strides) s.rows c.next.new.self (length s.row) (axes r.first) r.axis r.count c.in-Some.ensures c.self.invariant

-- a row of one or more, and the rows behind it, are what is still to come
begun : (g : _) (c : goal.After-next-2 g) → let s = c.if-len-eq0.self-inside in let axes = g.D.Lengths.numbers in
    (s.row ++ with_places s.layout.start (axes s.layout.strides) (joined s.rows) ≡ c.args.self.now)
    × ((0 < length s.row) × HaveIndexedRows (axes s.layout.dim) (axes s.layout.strides) s.rows (length s.row))
begun g c =
    let axes = g.D.Lengths.numbers in
    let s = c.self.inside in
    let start = s.layout.start in
    let ns = axes s.layout.dim in
    let bs = axes s.layout.strides in
    let P : Inside g.row.D.Denot → Type 0 = λ now. (now.row ++ with_places now.layout.start (axes now.layout.strides) (joined now.rows) ≡ c.args.self.now)
    × ((0 < length now.row) × HaveIndexedRows (axes now.layout.dim) (axes now.layout.strides) now.rows (length now.row)) in
    elim c.if-len-eq0.branch [
      | then-len-eq0+in-Some w ↦ (let rest = w.next.new.self in
          let r = w.in-Some.row in
          let lists = row_from (axes r.first) r.axis r.count in
          let none = nil_from_length s.row (sym c.len.ensures ∙ w.if-len-eq0.true) in
          let row = w.new.ensures ∙ (ap (λ b. zip lists (places_from w.place-place.result b r.count)) w.stride-stride.ensures ∙ ap (λ p. zip lists (places_from p (slice_index bs r.axis) r.count)) w.place-place.ensures) in
          let split = rows-split start ns bs s.rows rest (length s.row) (axes r.first) r.axis r.count w.in-Some.ensures c.self.invariant in
          let long = ap length w.new.ensures ∙ length-indexed_row (axes r.first) r.axis w.place-place.result w.stride-stride.result r.count in
          let some = row-some start ns bs s.rows rest (length s.row) (axes r.first) r.axis r.count w.in-Some.ensures c.self.invariant in
          let whole : w.new.result ++ with_places start bs (joined rest) ≡ c.args.self.now =
          ap (λ m. m ++ with_places start bs (joined rest)) row ∙ (sym split ∙ (ap (λ m. m ++ with_places start bs (joined s.rows)) (sym none) ∙ c.self.view_is)) in
          let behind = rows-behind start ns bs s.rows rest (length s.row) (axes r.first) r.axis r.count w.in-Some.ensures c.self.invariant (length w.new.result) (omega (arith, long)) in
          subst P (sym w.self-inside-is) (whole, (omega (arith, long, some), behind)))
      | else-len-eq0 w ↦ (let n = c.len.ensures in
          let some : 0 < length s.row = omega (arith, n, w.if-len-eq0.false) in
          subst P (sym w.self-inside-is) (c.self.view_is, (some, c.self.invariant)))
    ]

pub invariant_of-self-2 : goal.invariant_of-self-2
invariant_of-self-2 g c =
    let axes = g.D.Lengths.numbers in
    let read : g.row.D.Denot × ℕ → List ℕ × ℕ = λ item. (axes item.0, item.1) in
    let b = (begun g c).1.1 in
    let n = yields-fewer read c.if-len-eq0.self-inside.row c.next-2.new.self c.next-2.result c.next-2.ensures in
    let few = b.few in
    record { each = b.each; as_many = b.as_many; limit = b.limit; few = omega (arith, n, few) }

pub returns : goal.returns
returns g c =
    let axes = g.D.Lengths.numbers in
    let s = c.if-len-eq0.self-inside in
    let b = begun g c in
    let tail = with_places s.layout.start (axes s.layout.strides) (joined s.rows) in
    let read : g.row.D.Denot × ℕ → List ℕ × ℕ = λ item. (axes item.0, item.1) in
    subst (λ l. YieldsFirstBy read (λ rest. rest) l c.next-2.result (c.next-2.new.self ++ tail)) b.0 (yields-front read s.row tail c.next-2.new.self c.next-2.result b.1.0 c.next-2.ensures)
